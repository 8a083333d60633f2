-- What a box has, while it is lent for a change.
use Rattle.std.specs.Borrow.{Lends, MutBor, Fml}
use Rattle.rbbi_cache.specs.declared.boxed.Body.{Body}
use Rattle.rbbi_cache.specs.contracts.boxed.Boxed as boxed
use Rattle.rbbi_cache.specs.contracts.boxed.Body as body

-- it ends with what is left of what it has
abbrev pub LendsBody : MutBor Body → MutBor Body → Fml
LendsBody holder lent = Lends boxed.the_row body.the_row holder lent (λ now. now)
