-- How sets of classes keep their words.
use Rattle.std.specs.Prelude.{ℕ, List, [], ◌∷◌}
use Rattle.std.specs.List.{flat_map}
use Rattle.std.specs.Rc.{rc_slice_items}
use Rattle.rbbi_classes.specs.declared.class_set.Words.{Words}
use Rattle.rbbi_classes.specs.declared.class_set.Words.TheVariants.{Own, Shared, One}

-- the words of a row, or of one chunk after another, or the one word
abbrev pub words_kept : Words → List ℕ
words_kept (Own words) = words.items
words_kept (Shared chunks) = flat_map rc_slice_items (rc_slice_items chunks)
words_kept (One word) = word ∷ []
