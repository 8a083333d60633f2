-- What the calls that read parts of a line answer.
use Rattle.std.specs.Prelude.{◌≡◌, ◌≢◌, ℕ, ◌<◌, List, ◌∷◌, ◌++◌, length, get_or, Option, Some, None, bytes_eq, codes, if◌then◌else◌}
use Rattle.rbbi_model.specs.Scripts.{Ask, ShowText}
use Rattle.rbbi_model.specs.Scripts as model
use Rattle.rbbi_model.specs.Answers as question
use Rattle.rbbi_script.specs.declared.command.Command.{Command}
use Rattle.rbbi_script.specs.Meaning.{meaning}
use Rattle.rbbi_script.specs.Grammar.{IsField, IsEscapeOf, IsNumberEscape, WritesCharacters, Writes}
use Rattle.rbbi_script.specs.Performing.{IsEdit}

-- the byte doesn't stand in the text
abbrev pub HasNone : ℕ → List ℕ → Type 0
HasNone byte text = (i : ℕ) → i < length text → get_or text i 0 ≢ byte

-- these stand before and after the first of a byte
pub record IsFirstCut (byte : ℕ) (text before after : List ℕ) : Type 0 where
  pub parts : text ≡ before ++ byte ∷ after
  pub first : HasNone byte before

-- the text begins with this number and a space, and with no other
pub record IsOnlyField (text : List ℕ) (n : ℕ) (rest : List ℕ) : Type 0 where
  pub is : IsField text n rest
  pub only : (m : ℕ) (others : List ℕ) → IsField text m others → (m ≡ n) × (others ≡ rest)

-- no escape begins the text
abbrev pub IsNoEscape : List ℕ → Type 0
IsNoEscape text = (spelling : List ℕ) (c : ℕ) (rest : List ℕ) → IsEscapeOf spelling c → text ≢ spelling ++ rest

-- no escape with a number begins the text
abbrev pub IsNoNumberEscape : List ℕ → Type 0
IsNoNumberEscape text = (spelling : List ℕ) (c : ℕ) (rest : List ℕ) → IsNumberEscape spelling c → text ≢ spelling ++ rest

-- this escape begins the text, and no other
pub record IsOnlyEscape (text : List ℕ) (c : ℕ) (rest : List ℕ) : Type 0 where
  pub spelling : List ℕ
  pub is : IsEscapeOf spelling c
  pub parts : text ≡ spelling ++ rest
  pub only : (other : List ℕ) (d : ℕ) (others : List ℕ) → IsEscapeOf other d → text ≡ other ++ others → (d ≡ c) × (others ≡ rest)

-- the text writes these characters, and no others
pub record IsOnlyWord (text word : List ℕ) : Type 0 where
  pub spells : WritesCharacters text word
  pub only : (other : List ℕ) → WritesCharacters text other → other ≡ word

-- the characters that the text writes, if it writes any
abbrev pub AreCharactersOf : List ℕ → Option (List ℕ) → Type 0
AreCharactersOf text None = (word : List ℕ) → ¬ WritesCharacters text word
AreCharactersOf text (Some word) = IsOnlyWord text word

-- the command that a word alone writes
abbrev pub named : List ℕ → Option model.Command
named name =
    if bytes_eq name (codes "first") then Some (Ask question.First)
    else (if bytes_eq name (codes "last") then Some (Ask question.Last)
    else (if bytes_eq name (codes "next") then Some (Ask question.Next)
    else (if bytes_eq name (codes "previous") then Some (Ask question.Previous)
    else (if bytes_eq name (codes "current") then Some (Ask question.Current)
    else (if bytes_eq name (codes "status") then Some (Ask question.Status)
    else (if bytes_eq name (codes "statuses") then Some (Ask question.Statuses)
    else (if bytes_eq name (codes "breaks") then Some (Ask question.Breaks)
    else (if bytes_eq name (codes "text") then Some ShowText else None))))))))

-- the command that a line writes, if it writes one
abbrev pub IsCommandOf : List ℕ → Option Command → Type 0
IsCommandOf line None = (command : model.Command) → ¬ Writes line command
IsCommandOf line (Some command) = Writes line (meaning command)

-- the command that a line writes, if it writes one that is no edit
abbrev pub IsOtherOf : List ℕ → Option Command → Type 0
IsOtherOf line None = (command : model.Command) → Writes line command → IsEdit command
IsOtherOf line (Some command) = Writes line (meaning command)
