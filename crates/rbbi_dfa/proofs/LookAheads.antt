-- How many rules look ahead, by the marks of rules.
use Rattle.std.proofs.Common.{◌≡◌, ◌+◌, ℕ, suc, Bool, true, false, cond, List, [], ◌∷◌, length, Option, Some, None, refl, ap, sym, ◌∙◌, arith}
use Rattle.std.specs.Prelude.{take, count_by, is_some, slice_get}
use Rattle.std.specs.Option.{option_map}
use Rattle.std.proofs.lemmas.Option.{slice_get_within, get_or_from_slice_get}
use Rattle.std.proofs.lemmas.List.Sums.{count_by_more_no, count_by_more_yes, length-filter, sum_by-cons}
use Rattle.rbbi_model.specs.Rules.{Rule, look_aheads}
use Rattle.rbbi_model.specs.Tables.{CategoryRange}
use Rattle.rbbi_positions.proofs.MarkLists.{some_mapped}
use Rattle.rbbi_positions.specs.PositionMarks.{RuleMark, PositionMarks, ArePositions}

-- whether the marks are those of a rule that looks ahead
abbrev pub has_slash : RuleMark → Bool
has_slash mark = is_some mark.slash

abbrev pub has_rest : Rule → Bool
has_rest rule = is_some rule.rest

-- one more rule
counted_by : (marks : List RuleMark) (rule : ℕ) (mark : RuleMark) (b : Bool) → slice_get marks rule ≡ Some mark → has_slash mark ≡ b →
    count_by has_slash (take (rule + 1) marks) ≡ count_by has_slash (take rule marks) + cond b 1 0
counted_by marks rule mark true at is =
    count_by_more_yes has_slash marks rule mark (slice_get_within marks rule mark at) (ap has_slash (get_or_from_slice_get marks rule mark mark at) ∙ is)
counted_by marks rule mark false at is =
    let e = count_by_more_no has_slash marks rule mark (slice_get_within marks rule mark at) (ap has_slash (get_or_from_slice_get marks rule mark mark at)
    ∙ is) in
    omega (arith, e)

of_mark : (found : Option RuleMark) (slash : Option ℕ) → option_map (λ mark. mark.slash) found ≡ Some slash → (mark : RuleMark) × (found ≡ Some mark) ×
    (mark.slash ≡ slash)
of_mark None slash h = absurd (cc)
of_mark (Some mark) slash h = (mark, refl, cc)

pub counted_more : (marks : List RuleMark) (rule : ℕ) (slash : Option ℕ) → option_map (λ mark. mark.slash) (slice_get marks rule) ≡ Some slash →
    count_by has_slash (take (rule + 1) marks) ≡ count_by has_slash (take rule marks) + cond (is_some slash) 1 0
counted_more marks rule slash h =
    let found = of_mark (slice_get marks rule) slash h in
    counted_by marks rule found.0 (is_some slash) found.1 (ap is_some found.2)

same_counts : (rules : List Rule) (marks : List RuleMark) → length marks ≡ length rules →
    ((n : ℕ) (rule : Rule) (mark : RuleMark) → slice_get rules n ≡ Some rule → slice_get marks n ≡ Some mark → has_slash mark ≡ has_rest rule) →
    count_by has_slash marks ≡ count_by has_rest rules
same_counts [] [] h each = refl
same_counts [] (mark ∷ marks) h each = absurd (omega (arith, h))
same_counts (rule ∷ rules) [] h each = absurd (omega (arith, h))
same_counts (rule ∷ rules) (mark ∷ marks) h each =
    sum_by-cons (λ m. cond (has_slash m) 1 0) mark marks
    ∙ ap (λ b. cond b 1 0 + count_by has_slash marks) (each 0 rule mark refl refl)
    ∙ ap (λ n. cond (has_rest rule) 1 0 + n) (same_counts rules marks (omega (arith, h)) (λ n r m at is. each (suc n) r m at is))
    ∙ sym (sum_by-cons (λ r. cond (has_rest r) 1 0) rule rules)

-- the marks have as many look-ahead rules as the rules
pub look_aheads_by_marks : (rules : List Rule) (categories : ℕ) (ranges : List CategoryRange) (marks : PositionMarks) →
    ArePositions rules categories ranges marks →
    count_by has_slash marks.rules ≡ length (look_aheads rules)
look_aheads_by_marks rules categories ranges marks h =
    same_counts rules marks.rules h.rule_count (λ n rule mark at is. ap is_some (h.rule_marks n rule mark at is).slash ∙ some_mapped _ rule.rest)
    ∙ sym (length-filter has_rest rules)
