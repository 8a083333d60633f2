-- Every file so far can be finished.
use Rattle.std.proofs.Common.{◌≡◌, ℕ, Bool, true, List, [], ◌∷◌, Option, Some, None, refl}
use Rattle.rbbi_lex.specs.declared.token.Token.{Token}
use Rattle.rbbi_lex.specs.declared.token.TokenKind.TheVariants.{Semi, ParenClose, SetOpen, SetClose, Char}
use Rattle.rbbi_tree.specs.declared.syntax.Quant.TheVariants.{Once}
use Rattle.rbbi_tree.specs.declared.set_level.SetState.{SetState}
use Rattle.rbbi_tree.specs.declared.set_level.SetState.TheVariants as state
use Rattle.rbbi_tree.specs.Trees.{SetSyntax, PartTree, SeqTree, ItemTree, StatementTree, placed, character, set, group}
use Rattle.rbbi_tree.specs.Grammar.{token}
use Rattle.rbbi_tree.specs.inner.Sets.{SetLevelTree, OuterSetTree, SetsTree, set_from, set_resumed}
use Rattle.rbbi_tree.specs.inner.Statements.{LevelTree, GroupTree, HeadTree, between, ended, Progress, whole, set_ended, run}
use Rattle.rbbi_tree.proofs.Sound.{Reading}

-- tokens that lead from here to between two statements
abbrev pub Finishes : List Token → Progress → Type 0
Finishes ts p = (q : Progress) × (run ts p ≡ Some q) × (q.head ≡ between)

abbrev made : List StatementTree → HeadTree → List GroupTree → LevelTree → Option SetsTree → Progress
made done head groups level sets = record { statements = done; head = head; groups = groups; level = level; sets = sets }

abbrev with : List SeqTree → List ItemTree → LevelTree
with sequences items = record { sequences = sequences; items = items }

abbrev close_groups : List GroupTree → List Token
close_groups [] = token Semi 0 ∷ []
close_groups (g ∷ outer) = token ParenClose 0 ∷ close_groups outer

-- after an item the groups are closed
finish_groups : (groups : List GroupTree) (done : List StatementTree) (head : HeadTree) (sequences : List SeqTree) (i : ItemTree) (is : List ItemTree) →
    Reading head →
    Finishes (close_groups groups) (made done head groups (with sequences (i ∷ is)) None)
finish_groups [] done between sequences i is reading = absurd reading
finish_groups [] done (ended s) sequences i is reading = absurd reading
finish_groups (g ∷ outer) done head sequences i is reading =
    finish_groups outer done head g.outer.sequences (placed g.place (group (whole (with sequences (i ∷ is)))) Once) g.outer.items reading
finish_groups [] done head sequences i is reading = (_, refl, refl)

-- before an item one is added
finish_level : (head : HeadTree) (done : List StatementTree) (groups : List GroupTree) (level : LevelTree) → Reading head →
    Finishes (token (Char 97 true) 0 ∷ close_groups groups) (made done head groups level None)
finish_level between done groups level reading = absurd reading
finish_level (ended s) done groups level reading = absurd reading
finish_level head done groups level reading =
    finish_groups groups done head level.sequences (placed 0 (character 97 true) Once) level.items tt

abbrev close_sets : List OuterSetTree → List GroupTree → List Token
close_sets [] groups = close_groups groups
close_sets (o ∷ outers) groups = token SetClose 0 ∷ close_sets outers groups

-- after a set the outer ones are closed
finish_outers : (outers : List OuterSetTree) (at : ℕ) (t : SetSyntax) (done : List StatementTree) (head : HeadTree) (groups : List GroupTree)
    (level : LevelTree) (sets : Option SetsTree) → Reading head →
    Finishes (close_sets outers groups) (set_ended at t outers (made done head groups level sets))
finish_outers [] at t done head groups level sets reading = finish_groups groups done head level.sequences (placed at (set t) Once) level.items reading
finish_outers (o ∷ outers) at t done head groups level sets reading =
    let s = set_resumed at t o in
    finish_outers outers o.place (set_from s s.parts) done head groups level (Some (record { innermost = s; outers = outers })) reading

abbrev in_set : SetLevelTree → List OuterSetTree → Option SetsTree
in_set s outers = Some (record { innermost = s; outers = outers })

-- a set is closed, with an operand before where one must stand
finish_set : (last : SetState) (place : ℕ) (negated : Bool) (parts : List PartTree) (outers : List OuterSetTree) (done : List StatementTree) (head : HeadTree)
    (groups : List GroupTree) (level : LevelTree) → Reading head →
    (ts : List Token) × Finishes ts (made done head groups level (in_set (record { place = place; negated = negated; parts = parts; state = last }) outers))
finish_set state.Both place negated parts outers done head groups level reading =
    (token SetOpen 0 ∷ token SetClose 0 ∷ token SetClose 0 ∷ close_sets outers groups, finish_outers outers place _ done head groups level _ reading)
finish_set last place negated parts outers done head groups level reading =
    (token SetClose 0 ∷ close_sets outers groups, finish_outers outers place _ done head groups level _ reading)

-- every file so far can be finished, where sets are open only in an expression
finish_head : (head : HeadTree) (done : List StatementTree) (groups : List GroupTree) (level : LevelTree) →
    (ts : List Token) × Finishes ts (made done head groups level None)
finish_head between done groups level = ([], (_, refl, refl))
finish_head (ended s) done groups level = (token Semi 0 ∷ [], (_, refl, refl))
finish_head head done groups level = (token (Char 97 true) 0 ∷ close_groups groups, finish_level head done groups level tt)

pub finish : (sets : Option SetsTree) (head : HeadTree) (done : List StatementTree) (groups : List GroupTree) (level : LevelTree) →
    ((open_ones : SetsTree) → sets ≡ Some open_ones → Reading head) → (ts : List Token) × Finishes ts (made done head groups level sets)
finish None head done groups level reading = finish_head head done groups level
finish (Some sets) head done groups level reading =
    finish_set sets.innermost.state sets.innermost.place sets.innermost.negated sets.innermost.parts sets.outers done head groups level (reading sets refl)
