use Rattle.rbbi_file.proofs.WholeFiles.{spell_valid, same_valid}
use Rattle.rbbi_file.proofs.laws.spellings_tell_the_table.Goals as goal

pub returns : goal.returns
returns c = λ bytes these those valid valid' spelled spelled'. same_valid bytes these those (spell_valid bytes these valid spelled) valid' spelled'
