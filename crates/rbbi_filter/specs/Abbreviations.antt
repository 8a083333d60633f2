-- Abbreviations, and the boundaries that aren't reported since one stands before them.
use Rattle.std.specs.Prelude.{ℕ, ◌-◌, Bool, not, ◌&&◌, ◌||◌, ◌==◌, nat_eq, nat_lt, nat_le, List, length, take, filter, slice_index, slice_range}
use Rattle.std.specs.List.{list_any, suffix_len, ends_with}
use Rattle.rbbi_model.specs.Boundaries.{Boundary}

-- white space (the property Pattern_White_Space): U+0009 to U+000D, U+0020, U+0085, U+200E, U+200F, U+2028 and U+2029
abbrev pub is_white_space : ℕ → Bool
is_white_space c =
    (nat_le 0x9 c && nat_le c 0xD) || ((c == 0x20) || ((c == 0x85) || ((nat_le 0x200E c && nat_le c 0x200F) || (nat_le 0x2028 c && nat_le c 0x2029))))

-- the space U+0020
abbrev pub is_space : ℕ → Bool
is_space c = c == 0x20

-- the characters without the spaces at their end
abbrev pub without_last_spaces : List ℕ → List ℕ
without_last_spaces w = take (length w - suffix_len is_space w) w

-- there are no characters, or the last is white space
abbrev pub ends_apart : List ℕ → Bool
ends_apart w = (length w == 0) || is_white_space (slice_index w (length w - 1))

-- the characters end with the member, and before it nothing stands or white space does
abbrev pub ends_with_member : List ℕ → List ℕ → Bool
ends_with_member w member = ends_with nat_eq w member && ends_apart (take (length w - length member) w)

-- the characters, without the spaces at their end, end with an abbreviation of the list, before which nothing stands or white space
abbrev pub ends : List (List ℕ) → List ℕ → Bool
ends list w = list_any (ends_with_member (without_last_spaces w)) list

-- how many characters before a boundary are looked at for an abbreviation
abbrev pub window_size : ℕ
window_size = 64

-- the characters before a place, or as many of them as are looked at
abbrev pub window : List ℕ → ℕ → List ℕ
window x y = slice_range x (y - window_size) y

-- the place lies within the text, neither at its start nor at its end, and an abbreviation stands before it
abbrev pub is_suppressed : List (List ℕ) → List ℕ → ℕ → Bool
is_suppressed list x y = nat_lt 0 y && (nat_lt y (length x) && ends list (window x y))

-- the boundaries without those before which an abbreviation stands
abbrev pub kept : List (List ℕ) → List ℕ → List Boundary → List Boundary
kept list x boundaries = filter (λ boundary. not (is_suppressed list x boundary.at)) boundaries
