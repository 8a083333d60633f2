-- The built-in tables for tailored lines: the kernel computes that the bytes spell valid tables.
use Rattle.std.proofs.Common.{◌≡◌, ◌≤◌, true, leb, length, refl, inl}
use Rattle.std.proofs.lemmas.Bool.{leb-true}
use Rattle.rbbi_model.specs.Tables.{Table}
use Rattle.rbbi_model.specs.TableFile.{spelling}
use Rattle.rbbi_text.specs.Bytes.{most_bytes}
use Rattle.rbbi_annexes.specs.Breaks.{SpellTable}
use Rattle.rbbi_annexes.proofs.Computing.{table_tests}
use Rattle.rbbi_annexes.proofs.Reading.{table_in}
use Rattle.rbbi_annexes.proofs.Valid.{is_valid, valid-true, valid_tests}
use Rattle.rbbi_segment_tables.specs.declared.line_normal.TheConstants.{LINE_NORMAL}
use Rattle.rbbi_segment_tables.specs.declared.line_loose.TheConstants.{LINE_LOOSE}
use Rattle.rbbi_segment_tables.specs.declared.line_cj.TheConstants.{LINE_CJ}
use Rattle.rbbi_segment_tables.specs.declared.line_normal_cj.TheConstants.{LINE_NORMAL_CJ}
use Rattle.rbbi_segment_tables.specs.declared.line_loose_cj.TheConstants.{LINE_LOOSE_CJ}

normal : Table
normal = table_in LINE_NORMAL.now

normal-valid : is_valid normal ≡ true
unfolding table_tests valid_tests normal
normal-valid = refl

normal-same : LINE_NORMAL.now ≡ spelling normal
unfolding table_tests normal
normal-same = refl

pub normal_spelled : SpellTable LINE_NORMAL.now
normal_spelled = (normal, valid-true normal normal-valid, inl normal-same)

normal-few : leb (length LINE_NORMAL.now) most_bytes ≡ true
normal-few = refl

pub normal_short : length LINE_NORMAL.now ≤ most_bytes
normal_short = leb-true (length LINE_NORMAL.now) most_bytes normal-few

loose : Table
loose = table_in LINE_LOOSE.now

loose-valid : is_valid loose ≡ true
unfolding table_tests valid_tests loose
loose-valid = refl

loose-same : LINE_LOOSE.now ≡ spelling loose
unfolding table_tests loose
loose-same = refl

pub loose_spelled : SpellTable LINE_LOOSE.now
loose_spelled = (loose, valid-true loose loose-valid, inl loose-same)

loose-few : leb (length LINE_LOOSE.now) most_bytes ≡ true
loose-few = refl

pub loose_short : length LINE_LOOSE.now ≤ most_bytes
loose_short = leb-true (length LINE_LOOSE.now) most_bytes loose-few

cj : Table
cj = table_in LINE_CJ.now

cj-valid : is_valid cj ≡ true
unfolding table_tests valid_tests cj
cj-valid = refl

cj-same : LINE_CJ.now ≡ spelling cj
unfolding table_tests cj
cj-same = refl

pub cj_spelled : SpellTable LINE_CJ.now
cj_spelled = (cj, valid-true cj cj-valid, inl cj-same)

cj-few : leb (length LINE_CJ.now) most_bytes ≡ true
cj-few = refl

pub cj_short : length LINE_CJ.now ≤ most_bytes
cj_short = leb-true (length LINE_CJ.now) most_bytes cj-few

normal_cj : Table
normal_cj = table_in LINE_NORMAL_CJ.now

normal_cj-valid : is_valid normal_cj ≡ true
unfolding table_tests valid_tests normal_cj
normal_cj-valid = refl

normal_cj-same : LINE_NORMAL_CJ.now ≡ spelling normal_cj
unfolding table_tests normal_cj
normal_cj-same = refl

pub normal_cj_spelled : SpellTable LINE_NORMAL_CJ.now
normal_cj_spelled = (normal_cj, valid-true normal_cj normal_cj-valid, inl normal_cj-same)

normal_cj-few : leb (length LINE_NORMAL_CJ.now) most_bytes ≡ true
normal_cj-few = refl

pub normal_cj_short : length LINE_NORMAL_CJ.now ≤ most_bytes
normal_cj_short = leb-true (length LINE_NORMAL_CJ.now) most_bytes normal_cj-few

loose_cj : Table
loose_cj = table_in LINE_LOOSE_CJ.now

loose_cj-valid : is_valid loose_cj ≡ true
unfolding table_tests valid_tests loose_cj
loose_cj-valid = refl

loose_cj-same : LINE_LOOSE_CJ.now ≡ spelling loose_cj
unfolding table_tests loose_cj
loose_cj-same = refl

pub loose_cj_spelled : SpellTable LINE_LOOSE_CJ.now
loose_cj_spelled = (loose_cj, valid-true loose_cj loose_cj-valid, inl loose_cj-same)

loose_cj-few : leb (length LINE_LOOSE_CJ.now) most_bytes ≡ true
loose_cj-few = refl

pub loose_cj_short : length LINE_LOOSE_CJ.now ≤ most_bytes
loose_cj_short = leb-true (length LINE_LOOSE_CJ.now) most_bytes loose_cj-few
