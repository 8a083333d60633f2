use Rattle.std.proofs.Common.{◌≡◌, sym, ◌∙◌, subst, rules}
use Rattle.std.specs.Prelude.{chars}
use Rattle.std.proofs.lemmas.Bool.{iff_false}
use Rattle.std.proofs.lemmas.Str.{chars_from_encodes}
use Rattle.rbbi_filter.specs.AbbreviationFiles.{IsAbbreviation}
use Rattle.rbbi_filter.proofs.abbreviation.AbbreviationLineValue.from_line.Goals as goal

pub returns-then-not-is_abbreviation : goal.returns-then-not-is_abbreviation
returns-then-not-is_abbreviation c =
    let all : c.in_ok-characters.characters.items ≡ chars c.args.line.now = search (rules, chars_from_encodes) in (
      iff_false c.is_skipped.ensures c.if-is_skipped.false,
      λ is. iff_false c.is_abbreviation.ensures c.if-not-is_abbreviation.true
          (subst IsAbbreviation (sym (c.deref.ensures.value ∙ all)) is),
    )

pub returns : goal.returns
returns c =
    let all : c.in_ok-characters.characters.items ≡ chars c.args.line.now = search (rules, chars_from_encodes) in (
      iff_false c.is_skipped.ensures c.if-is_skipped.false,
      all,
      subst IsAbbreviation c.deref.ensures.value (c.is_abbreviation.ensures.0 c.if-not-is_abbreviation.false),
    )
