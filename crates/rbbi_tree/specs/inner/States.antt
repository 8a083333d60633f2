-- What the parser's state stands for.
use Rattle.std.specs.Prelude.{ℕ, Some, map, option_map, reverse, Result}
use Rattle.rbbi_lex.specs.declared.token.TokenKind.{TokenKind}
use Rattle.rbbi_tree.specs.Values.{expr_tree, seq_tree, item_tree, statement_tree, statement_trees}
use Rattle.rbbi_tree.specs.inner.Sets.{SetsTree}
use Rattle.rbbi_tree.specs.inner.Statements.{LevelTree, GroupTree, HeadTree, between, assigning, ruling, resting, ended, Progress, with_sets, advance_outside}
use Rattle.rbbi_tree.specs.inner.Statements.{advance_inside}
use Rattle.rbbi_tree.specs.inner.SetStates.{set_level_tree, outer_set_tree, FollowsMachine}
use Rattle.rbbi_tree.specs.declared.error.TreeErr.{TreeErr}
use Rattle.rbbi_tree.specs.declared.level.Level.{Level}
use Rattle.rbbi_tree.specs.declared.parser.OpenGroup.{OpenGroup}
use Rattle.rbbi_tree.specs.declared.parser.OpenSets.{OpenSets}
use Rattle.rbbi_tree.specs.declared.parser.Head.{Head}
use Rattle.rbbi_tree.specs.declared.parser.Head.TheVariants.{Between, Assign, Rule, Rest, Whole}
use Rattle.rbbi_tree.specs.declared.parser.Parser.{Parser}

-- the expression so far that a level stands for
abbrev pub level_tree : Level → LevelTree
level_tree level = record { sequences = reverse (map seq_tree level.sequences.items); items = reverse (map item_tree level.items.items) }

-- the open group that a value stands for
abbrev pub group_tree : OpenGroup → GroupTree
group_tree g = record { place = g.place; outer = level_tree g.outer }

-- the open sets that a value stands for
abbrev pub sets_tree : OpenSets → SetsTree
sets_tree sets = record { innermost = set_level_tree sets.innermost; outers = reverse (map outer_set_tree sets.outers.items) }

-- the head that a value stands for
abbrev pub head_tree : Head → HeadTree
head_tree Between = between
head_tree (Assign name place) = assigning name place
head_tree (Rule place no_chain_in) = ruling place no_chain_in
head_tree (Rest place no_chain_in front slash) = resting place no_chain_in (expr_tree front) slash
head_tree (Whole statement) = ended (statement_tree statement)

-- the file so far that a parser stands for
abbrev pub progress : Parser → Progress
progress parser =
    record {
      statements = statement_trees parser.statements.items;
      head = head_tree parser.head;
      groups = reverse (map group_tree parser.groups.items);
      level =
          level_tree parser.level;
      sets = option_map sets_tree parser.sets;
    }

-- what reading a token of this kind at this place outside of sets answers, and the parser before and after it
abbrev pub ReadsOutside : TokenKind → ℕ → Parser → Result (Unit {0}) TreeErr → Parser → Type 0
ReadsOutside kind place before result after = FollowsMachine place (advance_outside kind place (progress before)) (λ _. progress after) result

-- what reading a token of this kind at this place within these sets answers, and the parser before it, which they were
-- taken out of, and after it
abbrev pub ReadsInside : TokenKind → ℕ → OpenSets → Parser → Result (Unit {0}) TreeErr → Parser → Type 0
ReadsInside kind place sets before result after =
    FollowsMachine place (advance_inside kind place (sets_tree sets) (with_sets (Some (sets_tree sets)) (progress before))) (λ _. progress after) result
