-- A text has one list of rules at most, and one fault at most, and not both.
use Rattle.std.proofs.Common.{◌≡◌, ◌≢◌, ℕ, Bool, List, length, refl, sym, ap, ◌∙◌, subst, inl, inr}
use Rattle.std.specs.Prelude.{IsSome, Err}
use Rattle.rbbi_model.specs.Rules.{Rule}
use Rattle.rbbi_lex.specs.declared.token.Token.{Token}
use Rattle.rbbi_lex.specs.declared.error.LexErr.{LexErr}
use Rattle.rbbi_lex.specs.declared.error.LexErr.TheVariants as lexing
use Rattle.rbbi_lex.specs.Lexing.{AreTokens, IsLexFault}
use Rattle.rbbi_lex.specs.Faults as wrong
use Rattle.rbbi_lex.specs.Errors as lexer
use Rattle.rbbi_lex.specs.inner.Errors.{error_of}
use Rattle.rbbi_tree.specs.declared.error.TreeErr.{TreeErr}
use Rattle.rbbi_tree.specs.Trees.{StatementTree}
use Rattle.rbbi_tree.specs.Grammar.{HasOneReading, IsFile}
use Rattle.rbbi_tree.specs.Brackets.{IsShallow}
use Rattle.rbbi_tree.specs.Refusals as parser
use Rattle.rbbi_resolve.specs.Laws.{HasOneMeaning}
use Rattle.rbbi_resolve.specs.Outcomes.{Means}
use Rattle.rbbi_resolve.specs.Refusals as resolver
use Rattle.rbbi_dfa.specs.declared.error.BuildErr.{BuildErr}
use Rattle.rbbi_dfa.specs.declared.error.BuildErr.TheVariants as build
use Rattle.rbbi_dfa.specs.Builds.{BuildsTable, IsWithinLimits}
use Rattle.rbbi_props.specs.Rows.{File}
use Rattle.rbbi_compile.specs.declared.error.CompileErr.{CompileErr}
use Rattle.rbbi_compile.specs.declared.error.CompileErr.TheVariants.{Tokens, Grammar, Meaning, TooManyCategories, Size, Memory}
use Rattle.rbbi_compile.specs.Rules.{HasStatements, MeansRules, HasRuleFault}
use Rattle.rbbi_compile.specs.Tables.{PassLimit, HasTableRules, HasFault}
use Rattle.rbbi_compile.specs.Laws.{HasOneAnswer}
use Rattle.rbbi_compile.proofs.LeastFaults.{same_fault, meaning_excludes}

-- what the lower crates state of tokens, readings and meanings
pub record Laws : Type 0 where
  pub tokens : (x : List ℕ) (ts us : List Token) → AreTokens x ts → AreTokens x us → ts ≡ us
  pub faults : (x : List ℕ) (f g : wrong.Fault) (i j : ℕ) → IsLexFault x f i → IsLexFault x g j → (f ≡ g) × (i ≡ j)
  pub apart : (x : List ℕ) (ts : List Token) (f : wrong.Fault) (i : ℕ) → AreTokens x ts → IsLexFault x f i → ⊥
  pub readings : (ts : List Token) → HasOneReading ts
  pub refusals : (ts : List Token) (end : ℕ) (e f : TreeErr) → parser.IsFaultOf ts end e → parser.IsFaultOf ts end f → e ≡ f
  pub excludes : (ts : List Token) (end : ℕ) (statements : List StatementTree) (e : TreeErr) → IsFile ts statements → IsShallow ts
      → parser.IsFaultOf ts end e → ⊥
  pub meanings : HasOneMeaning

-- the fault of the lexer that an error with a place tells
record TellsOne (x : List ℕ) (e : LexErr) : Type 0 where
  fault : wrong.Fault
  place : ℕ
  is : IsLexFault x fault place
  error_is : e ≡ error_of fault place

tells_one : (x : List ℕ) (e : LexErr) → lexer.TellsFault x e → IsSome (lexer.place_of e) → TellsOne x e
tells_one x (lexing.BadChar place) stops placed = record { fault = wrong.BadChar; place = place; is = stops; error_is = refl }
tells_one x (lexing.BadEscape place) stops placed = record { fault = wrong.BadEscape; place = place; is = stops; error_is = refl }
tells_one x (lexing.OpenQuote place) stops placed = record { fault = wrong.OpenQuote; place = place; is = stops; error_is = refl }
tells_one x (lexing.OpenProperty place) stops placed = record { fault = wrong.OpenProperty; place = place; is = stops; error_is = refl }
tells_one x (lexing.BadTag place) stops placed = record { fault = wrong.BadTag; place = place; is = stops; error_is = refl }
tells_one x (lexing.BadName place) stops placed = record { fault = wrong.BadName; place = place; is = stops; error_is = refl }
tells_one x lexing.Memory stops placed = absurd cc

-- one limit is the first that rules pass, or none is passed
one_size : (rules : List Rule) (e f : BuildErr) → BuildsTable rules (Err e) → BuildsTable rules (Err f) → e ≢ build.Memory → f ≢ build.Memory → e ≡ f
one_size rules build.TooManySets build.TooManySets is is' some some' = refl
one_size rules build.TooManySets build.TooManyRows is is' some some' = absurd (is'.0 is)
one_size rules build.TooManySets build.TooManyStatuses is is' some some' = absurd (is'.0 is)
one_size rules build.TooManyRows build.TooManySets is is' some some' = absurd (is.0 is')
one_size rules build.TooManyRows build.TooManyRows is is' some some' = refl
one_size rules build.TooManyRows build.TooManyStatuses is is' some some' = absurd (is'.1 is.1)
one_size rules build.TooManyStatuses build.TooManySets is is' some some' = absurd (is.0 is')
one_size rules build.TooManyStatuses build.TooManyRows is is' some some' = absurd (is.1 is'.1)
one_size rules build.TooManyStatuses build.TooManyStatuses is is' some some' = refl
one_size rules build.Memory f is is' some some' = absurd (some refl)
one_size rules e build.Memory is is' some some' = absurd (some' refl)

one_limit : (rules : List Rule) (e f : CompileErr) → PassLimit rules e → PassLimit rules f → e ≡ f
one_limit rules TooManyCategories TooManyCategories is is' = refl
one_limit rules TooManyCategories (Size f) is is' = absurd (is'.0 is)
one_limit rules TooManyCategories f is is' = absurd is'
one_limit rules (Size e) TooManyCategories is is' = absurd (is.0 is')
one_limit rules (Size e) (Size f) is is' = ap Size (one_size rules e f is.1 is'.1 is.2 is'.2)
one_limit rules (Size e) f is is' = absurd is'
one_limit rules e f is is' = absurd is

size_or_within : (rules : List Rule) (e : BuildErr) → BuildsTable rules (Err e) → e ≢ build.Memory → IsWithinLimits rules → ⊥
size_or_within rules build.TooManySets is some within = within.sets is
size_or_within rules build.TooManyRows is some within = within.rows is.1
size_or_within rules build.TooManyStatuses is some within = within.statuses is.2
size_or_within rules build.Memory is some within = some refl

module _ (laws : Laws) (files : List File) (ignored : Bool) (x : List ℕ) where
  -- the tokens, the statements and the rules of the text are one
  same_statements : (these those : List StatementTree) → HasStatements x these → HasStatements x those → these ≡ those
  same_statements these those has has' =
      laws.readings has'.tokens these those (subst (λ ts. IsFile ts these) (laws.tokens x has.tokens has'.tokens has.are has'.are) has.is_file) has'.is_file

  same_rules : (these those : List Rule) → MeansRules files ignored x these → MeansRules files ignored x those → these ≡ those
  same_rules these those means means' =
      laws.meanings files ignored means'.statements these those
      (subst (λ ss. Means files ignored ss these) (same_statements means.statements means'.statements means.has means'.has) means.mean) means'.mean

  -- what has a fault has nothing that comes after it
  no_tokens : (e : LexErr) (tokens : List Token) → HasRuleFault files ignored x (Tokens e) → AreTokens x tokens → ⊥
  no_tokens e tokens is are = let one = tells_one x e is.0 is.1 in laws.apart x tokens one.fault one.place are one.is

  no_statements : (e : TreeErr) (statements : List StatementTree) → HasRuleFault files ignored x (Grammar e) → HasStatements x statements → ⊥
  no_statements e statements (tokens, are, is) has =
      laws.excludes tokens (length x) statements e (subst (λ ts. IsFile ts statements) (laws.tokens x has.tokens tokens has.are are) has.is_file)
      (subst IsShallow (laws.tokens x has.tokens tokens has.are are) has.shallow) is

  no_rules : (rules : List Rule) (e : CompileErr) → MeansRules files ignored x rules → HasRuleFault files ignored x e → ⊥
  no_rules rules (Tokens e) means is = no_tokens e means.has.tokens is means.has.are
  no_rules rules (Grammar e) means is = no_statements e means.statements is means.has
  no_rules rules (Meaning e) means (statements, has, is, placed) =
      meaning_excludes files ignored statements rules (length x) e
      (subst (λ ss. Means files ignored ss rules) (same_statements means.statements statements means.has has) means.mean) is placed
  no_rules rules e means is = is

  -- there is one fault
  same_stop : (e f : LexErr) → HasRuleFault files ignored x (Tokens e) → HasRuleFault files ignored x (Tokens f) → e ≡ f
  same_stop e f is is' =
      let one = tells_one x e is.0 is.1 in
      let other = tells_one x f is'.0 is'.1 in
      let same = laws.faults x one.fault other.fault one.place other.place one.is other.is in
      one.error_is ∙ ap (λ fault. error_of fault one.place) same.0 ∙ ap (λ place. error_of other.fault place) same.1 ∙ sym other.error_is

  one_rule_fault : (e f : CompileErr) → HasRuleFault files ignored x e → HasRuleFault files ignored x f → e ≡ f
  one_rule_fault (Tokens e) (Tokens f) is is' = ap Tokens (same_stop e f is is')
  one_rule_fault (Tokens e) (Grammar f) is (tokens, are, is') = absurd (no_tokens e tokens is are)
  one_rule_fault (Tokens e) (Meaning f) is (statements, has, is', placed') = absurd (no_tokens e has.tokens is has.are)
  one_rule_fault (Grammar e) (Tokens f) (tokens, are, is) is' = absurd (no_tokens f tokens is' are)
  one_rule_fault (Grammar e) (Grammar f) (tokens, are, is) (others, are', is') =
      ap Grammar (laws.refusals tokens (length x) e f is (subst (λ ts. parser.IsFaultOf ts (length x) f) (laws.tokens x others tokens are' are) is'))
  one_rule_fault (Grammar e) (Meaning f) is (statements, has, is', placed') = absurd (no_statements e statements is has)
  one_rule_fault (Meaning e) (Tokens f) (statements, has, is, placed) is' = absurd (no_tokens f has.tokens is' has.are)
  one_rule_fault (Meaning e) (Grammar f) (statements, has, is, placed) is' = absurd (no_statements f statements is' has)
  one_rule_fault (Meaning e) (Meaning f) (statements, has, is, placed) (others, has', is', placed') =
      ap Meaning (same_fault _ _ e f is placed
      (subst (λ ss. resolver.IsRefusedFor files ignored ss (length x) f) (same_statements others statements has' has) is') placed')
  one_rule_fault (Tokens e) f is is' = absurd is'
  one_rule_fault (Grammar e) f is is' = absurd is'
  one_rule_fault (Meaning e) f is is' = absurd is'
  one_rule_fault e f is is' = absurd is

  one_fault : (e f : CompileErr) → HasFault files ignored x e → HasFault files ignored x f → e ≡ f
  one_fault e f (inl is) (inl is') = one_rule_fault e f is is'
  one_fault e f (inl is) (inr (rules, means, passed)) = absurd (no_rules rules e means is)
  one_fault e f (inr (rules, means, passed)) (inl is) = absurd (no_rules rules f means is)
  one_fault e f (inr (rules, means, passed)) (inr (others, means', passed')) =
      one_limit rules e f passed (subst (λ rs. PassLimit rs f) (same_rules others rules means' means) passed')

  no_limit : (rules : List Rule) (e : CompileErr) → HasTableRules files ignored x rules → PassLimit rules e → ⊥
  no_limit rules TooManyCategories has is = has.few is
  no_limit rules (Size e) has is = size_or_within rules e is.1 is.2 has.within
  no_limit rules e has is = is

  no_table : (rules : List Rule) (e : CompileErr) → HasTableRules files ignored x rules → HasFault files ignored x e → ⊥
  no_table rules e has (inl is) = no_rules rules e has.mean is
  no_table rules e has (inr (others, means, passed)) =
      no_limit rules e has (subst (λ rs. PassLimit rs e) (same_rules others rules means has.mean) passed)

  pub one_answer : HasOneAnswer files ignored x
  one_answer = record { rules = same_rules; rule_fault = one_rule_fault; no_rules = no_rules; fault = one_fault; no_table = no_table }
