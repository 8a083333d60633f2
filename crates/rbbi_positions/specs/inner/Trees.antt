-- What is computed of a tree: whether it is nullable, and where its positions stand in the lists that it spells.
use Rattle.std.specs.Prelude.{ℕ, ◌+◌, ◌==◌, Bool, true, false, ◌&&◌, ◌||◌}
use Rattle.rbbi_model.specs.Spelling.{Star, Plus, Quest, Tree, Leaf, Empty, Never, Then, Either, Repeat}
use Rattle.rbbi_model.specs.Rules.{leaf_count}

-- whether the tree spells the empty list: it is nullable
abbrev pub is_nullable : Tree → Bool
is_nullable (Leaf set) = false
is_nullable Empty = true
is_nullable Never = false
is_nullable (Then front rest) = is_nullable front && is_nullable rest
is_nullable (Either front rest) = is_nullable front || is_nullable rest
is_nullable (Repeat Star part) = true
is_nullable (Repeat Plus part) = is_nullable part
is_nullable (Repeat Quest part) = true

-- whether some list that the tree spells begins with the position, where its first leaf has the one given
abbrev pub begins : Tree → ℕ → ℕ → Bool
begins (Leaf set) first position = position == first
begins Empty first position = false
begins Never first position = false
begins (Then front rest) first position = begins front first position || (is_nullable front && begins rest (first + leaf_count front) position)
begins (Either front rest) first position = begins front first position || begins rest (first + leaf_count front) position
begins (Repeat repetition part) first position = begins part first position

-- whether some list that the tree spells ends with the position
abbrev pub ends : Tree → ℕ → ℕ → Bool
ends (Leaf set) first position = position == first
ends Empty first position = false
ends Never first position = false
ends (Then front rest) first position = ends rest (first + leaf_count front) position || (is_nullable rest && ends front first position)
ends (Either front rest) first position = ends front first position || ends rest (first + leaf_count front) position
ends (Repeat repetition part) first position = ends part first position

-- whether the next position may stand after what stands before the tree, where after the tree it may or not
abbrev pub leads : Tree → ℕ → ℕ → Bool → Bool
leads tree first next behind = begins tree first next || (is_nullable tree && behind)

-- whether the next position may stand right after the position in the tree, where after the tree it may or not
abbrev pub goes : Tree → ℕ → ℕ → ℕ → Bool → Bool
goes (Leaf set) first position next behind = (position == first) && behind
goes Empty first position next behind = false
goes Never first position next behind = false
goes (Then front rest) first position next behind =
    goes front first position next (leads rest (first + leaf_count front) next behind) || goes rest (first + leaf_count front) position next behind
goes (Either front rest) first position next behind = goes front first position next behind || goes rest (first + leaf_count front) position next behind
goes (Repeat Star part) first position next behind = goes part first position next (begins part first next || behind)
goes (Repeat Plus part) first position next behind = goes part first position next (begins part first next || behind)
goes (Repeat Quest part) first position next behind = goes part first position next behind
