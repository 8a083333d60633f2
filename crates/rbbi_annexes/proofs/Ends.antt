-- The rules of the annex break at both ends of a text.
use Rattle.std.proofs.Common.{◌≡◌, ℕ, true, List, [], ◌∷◌, refl}
use Rattle.unicode_segmentation.specs.Segments.{Rule}
use Rattle.unicode_segmentation.specs.Grapheme.{is_grapheme_break}
use Rattle.unicode_segmentation.specs.Sentence.{is_sentence_break}
use Rattle.unicode_segmentation.specs.Word.{is_word_break}

pub record BreaksAtEnds (rule : Rule) : Type 0 where
  pub start : (behind : List ℕ) → rule [] behind ≡ true
  pub end : (before : List ℕ) → rule before [] ≡ true

grapheme_end : (before : List ℕ) → is_grapheme_break true before [] ≡ true
unfolding is_grapheme_break
grapheme_end [] = refl
grapheme_end (last ∷ before) = refl

grapheme_start : (behind : List ℕ) → is_grapheme_break true [] behind ≡ true
unfolding is_grapheme_break
grapheme_start behind = refl

pub graphemes_at_ends : BreaksAtEnds (is_grapheme_break true)
graphemes_at_ends = record { start = grapheme_start; end = grapheme_end }

word_end : (before : List ℕ) → is_word_break before [] ≡ true
unfolding is_word_break
word_end [] = refl
word_end (last ∷ before) = refl

word_start : (behind : List ℕ) → is_word_break [] behind ≡ true
unfolding is_word_break
word_start behind = refl

pub words_at_ends : BreaksAtEnds is_word_break
words_at_ends = record { start = word_start; end = word_end }

sentence_end : (before : List ℕ) → is_sentence_break before [] ≡ true
unfolding is_sentence_break
sentence_end [] = refl
sentence_end (last ∷ before) = refl

sentence_start : (behind : List ℕ) → is_sentence_break [] behind ≡ true
unfolding is_sentence_break
sentence_start behind = refl

pub sentences_at_ends : BreaksAtEnds is_sentence_break
sentences_at_ends = record { start = sentence_start; end = sentence_end }
