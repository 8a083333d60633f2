-- Output that is made bit by bit, of which a front went into a sink and the rest waits.
use Rattle.std.proofs.Common.{◌≡◌, ◌+◌, ℕ, List, [], ◌++◌, length, take, Option, Some, None, Result, refl, sym, ap, ◌∙◌, subst, arith}
use Rattle.std.proofs.Common.{append_assoc, append-nil, length-append}
use Rattle.std.specs.Prelude.{option_map}
use Rattle.std.proofs.Math.Seq.{take-append-add}
use Rattle.std.proofs.lemmas.List.{take-append-le, take_all}
use Rattle.rbbi_io.specs.Sinks.{Takes, TakesFront, IsBuffered}
use Rattle.rbbi_io.specs.declared.error.WriteErr.{WriteErr}
use Rattle.rbbi_io.proofs.Puts.{Takes-both}
use Rattle.rbbi_tool.specs.inner.Puts.{Puts}

-- a sink that isn't called takes nothing
pub takes_nothing : (taken : Option (List ℕ)) → Takes taken taken []
takes_nothing None = refl
takes_nothing (Some bytes) = ap Some (sym (append-nil bytes))

-- what a sink took whole is a front
pub takes_whole : (before now : Option (List ℕ)) (bytes : List ℕ) → Takes before now bytes → TakesFront before now bytes
takes_whole before now bytes takes =
    (length bytes, omega arith, takes ∙ ap (λ l. option_map (λ t. t ++ l) before) (sym (take_all (length bytes) bytes (omega arith))))

-- Of all that is to go out a front was put, what was made behind it waits, and the rest isn't made yet.
pub record IsPutTo (all rest : List ℕ) (before now : Option (List ℕ)) (waiting : List ℕ) : Type 0 where
  pub flushed : List ℕ
  pub taken : Takes before now flushed
  pub whole : all ≡ flushed ++ (waiting ++ rest)

-- nothing was put so far
pub put_none : (all rest : List ℕ) (taken : Option (List ℕ)) (waiting : List ℕ) → all ≡ waiting ++ rest → IsPutTo all rest taken taken waiting
put_none all rest taken waiting whole = record { flushed = []; taken = takes_nothing taken; whole = whole }

module _ (all rest : List ℕ) (before between : Option (List ℕ)) (waiting : List ℕ) (so_far : IsPutTo all rest before between waiting) where
  -- more was made
  pub put_more : (bytes rest' made : List ℕ) → rest ≡ bytes ++ rest' → made ≡ waiting ++ bytes → IsPutTo all rest' before between made
  put_more bytes rest' made parts is = record {
    flushed = so_far.flushed;
    taken = so_far.taken;
    whole =
        so_far.whole
        ∙ ap (λ r. so_far.flushed ++ (waiting ++ r)) parts
        ∙ ap (λ l. so_far.flushed ++ l) (sym (append_assoc waiting bytes rest'))
        ∙ ap (λ m. so_far.flushed ++ (m ++ rest')) (sym is);
  }

  -- some of what waited was put
  pub put_flushed : (now : Option (List ℕ)) (left : List ℕ) → IsBuffered between now waiting left → IsPutTo all rest before now left
  put_flushed now left more = record {
    flushed = so_far.flushed ++ more.flushed;
    taken = Takes-both before between now so_far.flushed more.flushed so_far.taken more.taken;
    whole =
        so_far.whole
        ∙ ap (λ w. so_far.flushed ++ (w ++ rest)) more.parts
        ∙ ap (λ l. so_far.flushed ++ l) (append_assoc more.flushed left rest)
        ∙ sym (append_assoc so_far.flushed more.flushed (left ++ rest));
  }

  -- all is made, and what waited was put
  pub put_end : rest ≡ [] → (now : Option (List ℕ)) → Takes between now waiting → Takes before now all
  put_end none now more =
      subst (Takes before now)
      (sym (so_far.whole ∙ ap (λ r. so_far.flushed ++ (waiting ++ r)) none ∙ ap (λ l. so_far.flushed ++ l) (append-nil waiting)))
      (Takes-both before between now so_far.flushed waiting so_far.taken more)

  -- a put was refused
  pub put_refused : (now : Option (List ℕ)) → TakesFront between now waiting → TakesFront before now all
  put_refused now front = (
    length so_far.flushed + front.0,
    omega (
      arith,
      ap length so_far.whole,
      length-append so_far.flushed (waiting ++ rest),
      length-append waiting rest,
      front.1,
    ),
    Takes-both before between now so_far.flushed (take front.0 waiting) so_far.taken front.2
        ∙ ap (λ l. option_map (λ t. t ++ (so_far.flushed ++ l)) before) (sym (take-append-le front.0 waiting rest front.1))
        ∙ ap (λ l. option_map (λ t. t ++ l) before) (sym (take-append-add so_far.flushed (waiting ++ rest) front.0))
        ∙ ap (λ l. option_map (λ t. t ++ take (length so_far.flushed + front.0) l) before) (sym so_far.whole),
  )

  -- for want of memory no more is made
  pub put_stays : TakesFront before between all
  put_stays = put_refused between (0, omega arith, takes_nothing between)

-- the same bytes were put at the same cost
pub puts_as : {T : Type 0} {bytes bytes' : List ℕ} {cost cost' : ℕ} {r : Result T WriteErr} {taken taken' : Option (List ℕ)} {count count' before after : ℕ}
    → bytes ≡ bytes' → cost ≡ cost' → Puts bytes cost r taken taken' count count' before after → Puts bytes' cost' r taken taken' count count' before after
puts_as {bytes' = bytes'} {cost = cost} {r = r} {taken = taken} {taken' = taken'} {count = count} {count' = count'} {before = before} {after = after} same equal
    puts =
    subst (λ n. Puts bytes' n r taken taken' count count' before after) equal
    (subst (λ l. Puts l cost r taken taken' count count' before after) same puts)
