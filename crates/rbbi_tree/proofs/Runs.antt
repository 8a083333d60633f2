-- Runs of the machine over lists of tokens.
use Rattle.std.proofs.Common.{◌≡◌, List, [], ◌∷◌, ◌++◌, Option, Some, None, option_and_then, refl, ◌∙◌, ap}
use Rattle.rbbi_lex.specs.declared.token.Token.{Token}
use Rattle.rbbi_tree.specs.inner.Statements.{Progress, advance, run}

-- a run over two lists is a run over the first and then over the second
pub run-append : (a b : List Token) (p : Progress) → run (a ++ b) p ≡ option_and_then (run b) (run a p)
run-append [] b p = refl
run-append (t ∷ a) b p = go (advance t p) (λ q. run-append a b q)
  where
    go : (o : Option Progress) → ((q : Progress) → run (a ++ b) q ≡ option_and_then (run b) (run a q)) →
        option_and_then (run (a ++ b)) o ≡ option_and_then (run b) (option_and_then (run a) o)
    go None each = refl
    go (Some q) each = each q

-- a run that comes to q over a list goes on from there
pub run-on : (a b : List Token) (p q : Progress) → run a p ≡ Some q → run (a ++ b) p ≡ run b q
run-on a b p q h = run-append a b p ∙ ap (option_and_then (run b)) h
