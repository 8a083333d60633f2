-- What stands before a place, once one more item is passed.
use Rattle.std.specs.Prelude.{ℕ, Bool, true, false, not, ◌&&◌, ◌||◌, List, [], ◌∷◌, Some, if◌then◌else◌}
use Rattle.ucd_breaks.specs.declared.LineBreak.TheVariants.{ClosePunctuation as CL, CloseParenthesis as CP, InfixNumeric as IS, Numeric as NU}
use Rattle.ucd_breaks.specs.declared.LineBreak.TheVariants.{RegionalIndicator as RI, Space as SP, BreakSymbols as SY}
use Rattle.rbbi_annexes.specs.declared.lines.items.Item.{Item}
use Rattle.rbbi_annexes.specs.declared.lines.rules.Left.{Left}
use Rattle.rbbi_annexes.specs.LineBreaks.{is, one_of}

-- an item that counts with none before it
abbrev pub left_with : Left → Item → Bool → Left
left_with l item joiner =
    record {
      first = Some item;
      second = l.first;
      held = if is SP (Some item) then l.held else Some item;
      before_held = if is SP (Some item) then l.before_held else l.first;
      joiner = joiner;
      number = is NU (Some item) || (one_of (SY ∷ IS ∷ []) (Some item) && l.number);
      closed_number = one_of (CL ∷ CP ∷ []) (Some item) && l.number;
      half_flag = is RI (Some item) && not l.half_flag;
    }

abbrev pub is_empty : List ℕ → Bool
is_empty [] = true
is_empty (c ∷ before) = false
