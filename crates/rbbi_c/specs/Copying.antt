-- What is written of a list where there may be too little room.
use Rattle.std.specs.Prelude.{◌≡◌, ℕ, List, length, take, drop, if◌then◌else◌, nat_lt}

-- The list stands at the front of the room, or its front fills the room. What lies past it stays.
pub record IsCopied {X : Type 0} (list old new : List X) : Type 0 where
  pub same_room : length new ≡ length old
  pub front : take (length list) new ≡ take (length old) list
  pub past : drop (length list) new ≡ drop (length list) old

-- the code for so many items in so much room
abbrev pub room_code : ℕ → ℕ → ℕ
room_code count room = if nat_lt room count then 10 else 0
