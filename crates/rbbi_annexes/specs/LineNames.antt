-- The short names that Unicode's files and annexes have for values: of Line_Break, General_Category and East_Asian_Width.
pub use Rattle.ucd_breaks.specs.declared.LineBreak.TheVariants.{Ambiguous as AI, Aksara as AK, Alphabetic as AL, AksaraPrebase as AP, AksaraStart as AS}
pub use Rattle.ucd_breaks.specs.declared.LineBreak.TheVariants.{BreakBoth as B2, BreakAfter as BA, BreakBefore as BB, MandatoryBreak as BK}
pub use Rattle.ucd_breaks.specs.declared.LineBreak.TheVariants.{ContingentBreak as CB, ConditionalJapaneseStarter as CJ, ClosePunctuation as CL}
pub use Rattle.ucd_breaks.specs.declared.LineBreak.TheVariants.{CombiningMark as CM, CloseParenthesis as CP, CarriageReturn as CR}
pub use Rattle.ucd_breaks.specs.declared.LineBreak.TheVariants.{EBase as EB, EModifier as EM}
pub use Rattle.ucd_breaks.specs.declared.LineBreak.TheVariants.{Exclamation as EX, Glue as GL, H2, H3, UnambiguousHyphen as HH}
pub use Rattle.ucd_breaks.specs.declared.LineBreak.TheVariants.{HebrewLetter as HL, Hyphen as HY, Ideographic as ID, Inseparable as IN}
pub use Rattle.ucd_breaks.specs.declared.LineBreak.TheVariants.{InfixNumeric as IS, Jl as JL, Jt as JT, Jv as JV}
pub use Rattle.ucd_breaks.specs.declared.LineBreak.TheVariants.{LineFeed as LF, NextLine as NL, Nonstarter as NS, Numeric as NU, OpenPunctuation as OP}
pub use Rattle.ucd_breaks.specs.declared.LineBreak.TheVariants.{PostfixNumeric as PO, PrefixNumeric as PR, Quotation as QU, RegionalIndicator as RI}
pub use Rattle.ucd_breaks.specs.declared.LineBreak.TheVariants.{ComplexContext as SA, Surrogate as SG, Space as SP, BreakSymbols as SY, ViramaFinal as VF}
pub use Rattle.ucd_breaks.specs.declared.LineBreak.TheVariants.{Virama as VI, WordJoiner as WJ, Unknown as XX, ZWSpace as ZW, Zwj as ZWJ}
pub use Rattle.ucd_category.specs.declared.GeneralCategory.TheVariants.{NonspacingMark as Mn, SpacingMark as Mc}
pub use Rattle.ucd_category.specs.declared.GeneralCategory.TheVariants.{InitialPunctuation as Pi, FinalPunctuation as Pf, Unassigned as Cn}
pub use Rattle.ucd_east_asian.specs.declared.EastAsianWidth.TheVariants.{Fullwidth as F, Wide as W, Halfwidth as H}
