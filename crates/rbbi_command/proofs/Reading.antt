-- The reads of the files that words name, in order.
use Rattle.std.proofs.Common.{◌≡◌, ◌≢◌, ◌<◌, ◌≤◌, ◌+◌, ◌⊎◌, ℕ, zero, suc, List, [], ◌∷◌, length, drop, get_or, slice_get}
use Rattle.std.proofs.Common.{Option, None, Some, refl, sym, ap, ◌∙◌, subst, inl, inr, ⊎_elim, arith}
use Rattle.std.specs.Prelude.{fold, IfSome, OnSome, Result, Ok}
use Rattle.std.proofs.lemmas.Bool.{cases_lt}
use Rattle.std.proofs.lemmas.Option.{slice_get_within}
use Rattle.std.proofs.lemmas.List.{drop_more, drop_all}
use Rattle.rbbi_io.specs.Counts.{greatest_count, Rose, EachGoesOn, EachStays, OthersStay}
use Rattle.rbbi_io.specs.declared.error.ReadErr.{ReadErr}
use Rattle.rbbi_text.specs.Bytes.{most_bytes}
use Rattle.rbbi_model.proofs.Lists.{all_append}
use Rattle.rbbi_command.specs.declared.files.Role.{Role}
use Rattle.rbbi_command.specs.declared.files.Role.TheVariants as role
use Rattle.rbbi_command.specs.declared.files.Source.{Source}
use Rattle.rbbi_command.specs.declared.refusal.Refusal.{Refusal}
use Rattle.rbbi_command.specs.declared.refusal.Refusal.TheVariants.{Usage, Unread, Fault, Memory}
use Rattle.rbbi_command.specs.Files.{limit_of, length_stage, lengths_stage}
use Rattle.rbbi_command.specs.Inputs.{Inputs, no_inputs, put, inputs_of, AreShort}
use Rattle.rbbi_command.specs.inner.Reads.{IsReadOf, EndsRead, ReadsOnce}
use Rattle.rbbi_command.specs.Reads.{MakesReads, MakesSomeReads, EndsReading, AreRead, AreReads, IsRefusedRead, StopsReading}
use Rattle.rbbi_command.specs.Reads as made

-- the inputs with the files of a list, which hold this
abbrev pub with_files : (List ℕ → List ℕ) → Inputs → List Source → Inputs
with_files held inputs sources = fold (λ so_far source. put source.role source.name (held source.name) so_far) inputs sources

-- So many of the files were read, and what they hold: each is within its limit, and no other name's count changed.
pub record AreReadBefore (held : List ℕ → List ℕ) (sources : List Source) (before now : List ℕ → ℕ) (i : ℕ) (inputs : Inputs) : Type 0 where
  pub inputs_are : with_files held inputs (drop i sources) ≡ inputs_of held sources
  pub within : (k : ℕ) (source : Source) → k < i → slice_get sources k ≡ Some source → length (held source.name) ≤ limit_of source.role
  pub others : (name : List ℕ) → ((k : ℕ) (source : Source) → k < i → slice_get sources k ≡ Some source → source.name ≢ name) → now name ≡ before name

-- so many of the files were read, where the files perhaps don't tell what they hold
pub record ReadsSoFar (sources : List Source) (contents contents' : Option (List ℕ → List ℕ)) (before now writes writes' : List ℕ → ℕ) (i : ℕ)
    (inputs : Inputs) : Type 0 where
  pub inside : i ≤ length sources
  pub same : contents' ≡ contents
  pub short : AreShort inputs
  pub told : IfSome contents (λ held. AreReadBefore held sources before now i inputs)
  pub reads : EachGoesOn before now
  pub calm : EachStays before now
  pub stays : EachStays writes writes'

-- the file at an index
at_index : (sources : List Source) (i : ℕ) (source : Source) → i < length sources → source ≡ get_or sources i source → slice_get sources i ≡ Some source
at_index [] i source inside is = absurd (omega arith)
at_index (s ∷ sources) zero source inside is = ap Some (sym is)
at_index (s ∷ sources) (suc i) source inside is = at_index sources i source (omega arith) is

-- no limit is greater than what is read at once
limit_fits : (role : Role) → limit_of role ≤ most_bytes
limit_fits role.Property = omega arith
limit_fits role = omega arith

-- one file more within its limit
put_short : (role : Role) (name bytes : List ℕ) (inputs : Inputs) → AreShort inputs → length bytes ≤ most_bytes → AreShort (put role name bytes inputs)
put_short role.Property name bytes inputs s fits =
    assumption (all_append (λ b. length b ≤ most_bytes) inputs.properties (bytes ∷ []) s.properties (fits, tt), s)
put_short role name bytes inputs s fits = assumption (fits, s)

-- each file is within its limit
lengths_pass : (held : List ℕ → List ℕ) (sources : List Source) → ((k : ℕ) (source : Source) → slice_get sources k ≡ Some source → length
    (held source.name) ≤ limit_of source.role) → (lengths_stage held sources).passes tt
lengths_pass held [] within = tt
lengths_pass held (s ∷ sources) within = (tt, within 0 s refl, lengths_pass held sources (λ k. within (suc k)))

-- the file at an index is the first that is too long
lengths_refuse : (held : List ℕ → List ℕ) (sources : List Source) (i : ℕ) (source : Source) (refusal : Refusal) → slice_get sources i ≡ Some source
    → ((k : ℕ) (source : Source) → k < i → slice_get sources k ≡ Some source → length (held source.name) ≤ limit_of source.role)
    → (length_stage held source).refuses refusal → (lengths_stage held sources).refuses refusal
lengths_refuse held [] i source refusal is within long = absurd (cc)
lengths_refuse held (s ∷ sources) zero source refusal is within long =
    let same : s ≡ source = cc in inl (subst (λ t. (length_stage held t).refuses refusal) (sym same) long)
lengths_refuse held (s ∷ sources) (suc i) source refusal is within long =
    inr (tt, within 0 s (omega arith) refl, lengths_refuse held sources i source refusal is (λ k t less. within (suc k) t (omega arith)) long)

-- a fact of what the files hold, from two such facts
pub both_told : {H : Type 0} (o : Option H) (P Q R : H → Type 0) → IfSome o P → IfSome o Q → ((h : H) → P h → Q h → R h) → IfSome o R
both_told None P Q R p q both = tt
both_told (Some h) P Q R p q both = both h p q

pub all_told : {H : Type 0} (o : Option H) (P R : H → Type 0) → IfSome o P → ((h : H) → P h → R h) → IfSome o R
all_told None P R p all = tt
all_told (Some h) P R p all = all h p

pub always_told : {H : Type 0} (o : Option H) (P : H → Type 0) → ((h : H) → P h) → IfSome o P
always_told None P all = tt
always_told (Some h) P all = all h

-- before the first
pub none_read : (sources : List Source) (contents : Option (List ℕ → List ℕ)) (before writes : List ℕ → ℕ) (inputs : Inputs)
    → ((name : List ℕ) → before name ≤ greatest_count) → inputs ≡ no_inputs
    → ReadsSoFar sources contents contents before before writes writes 0 inputs
none_read sources contents before writes inputs fit none =
    subst (λ i. ReadsSoFar sources contents contents before before writes writes 0 i) (sym none)
    (record {
      inside = omega arith;
      same = refl;
      short = let none : 0 ≤ most_bytes = omega arith in assumption (none, tt);
      told =
          always_told contents (λ held. AreReadBefore held sources before before 0 no_inputs)
          (λ held. record { inputs_are = refl; within = λ k s less. absurd (omega arith); others = λ name differs. refl });
      reads = λ name. (omega arith, fit name);
      calm = λ name. refl;
      stays = λ name. refl;
    })

module _ {sources : List Source} {contents contents' : Option (List ℕ → List ℕ)} {before now writes writes' : List ℕ → ℕ} {i : ℕ} {inputs : Inputs}
    (so_far : ReadsSoFar sources contents contents' before now writes writes' i inputs) (source : Source) (inside : i < length sources)
    (is : source ≡ get_or sources i source) where
  -- no count of a name changed but of those of the files so far and of this one
  others_after : (held : List ℕ → List ℕ) (now' : List ℕ → ℕ) → AreReadBefore held sources before now i inputs → OthersStay source.name now now'
      → (name : List ℕ) → ((k : ℕ) (s : Source) → k < i + 1 → slice_get sources k ≡ Some s → s.name ≢ name) → now' name ≡ before name
  others_after held now' front stay name differs =
      stay name (λ same. differs i source (omega arith) (at_index sources i source inside is) (sym same)) ∙ front.others name
      (λ k s less. differs k s (omega arith))

  -- the reads so far and this one
  pub reads_made : (now' : List ℕ → ℕ) → OnSome contents' (OthersStay source.name now now') → IfSome contents
      (λ held. MakesReads held sources before now' (i + 1))
  reads_made now' stay =
      both_told contents (λ held. AreReadBefore held sources before now i inputs) (λ _. OthersStay source.name now now')
      (λ held. MakesReads held sources before now' (i + 1)) so_far.told
      (subst (λ o. OnSome o (OthersStay source.name now now')) so_far.same stay)
      (λ held front stays. record { few = omega arith; within = λ k s less. front.within k s (omega arith); others = others_after held now' front stays })

  pub some_reads_made : (now' : List ℕ → ℕ) → OnSome contents' (OthersStay source.name now now') → IfSome contents (MakesSomeReads sources before now')
  some_reads_made now' stay =
      all_told contents (λ held. MakesReads held sources before now' (i + 1)) (MakesSomeReads sources before now') (reads_made now' stay)
      (λ held made. (i + 1, made))

  -- the read of this file is refused
  pub reading_ends : (now' : List ℕ → ℕ) (refusal : Refusal) → EachGoesOn now now' → OnSome contents' (OthersStay source.name now now')
      → EndsRead source contents' now now' refusal → EndsReading sources contents before now' refusal
  reading_ends now' Usage on stay ends = ends
  reading_ends now' (Unread name) on stay ends =
      let earlier = so_far.reads source.name in
      let rose : Rose (before source.name) (now' source.name) = ⊎_elim (λ less. inl (omega arith)) (λ full. inr full) ends.1 in
      record {
        number = i;
        source = source;
        is = at_index sources i source inside is;
        named = sym ends.0;
        rose = subst (λ n. Rose (before n) (now' n)) (sym ends.0) rose;
        reads = reads_made now' stay;
      }
  reading_ends now' (Fault subject label place) on stay ends = (
    both_told contents (λ held. AreReadBefore held sources before now i inputs) (λ held. (length_stage held source).refuses (Fault subject label place))
        (λ held. (lengths_stage held sources).refuses (Fault subject label place)) so_far.told
        (subst (λ o. IfSome o (λ held. (length_stage held source).refuses (Fault subject label place))) so_far.same ends.0)
        (λ held front long. lengths_refuse held sources i source (Fault subject label place) (at_index sources i source inside is) front.within long),
    λ name. ends.1 name ∙ so_far.calm name,
  )
  reading_ends now' Memory on stay ends = tt

  -- this file is read
  pub reads_more : (contents'' : Option (List ℕ → List ℕ)) (now' writes'' : List ℕ → ℕ) (read : List ℕ) (inputs' : Inputs)
      → IsReadOf source contents' read → contents'' ≡ contents' → EachGoesOn now now' → EachStays now now' → EachStays writes' writes'' → OnSome contents'
      (OthersStay source.name now now')
      → inputs' ≡ put source.role source.name read inputs → ReadsSoFar sources contents contents'' before now' writes writes'' (i + 1) inputs'
  reads_more contents'' now' writes'' read inputs' is_read same on calm stays stay is_put =
      let rest = drop (i + 1) sources in
      let more : drop i sources ≡ source ∷ rest = drop_more sources i source inside ∙ ap (λ s. s ∷ rest) (sym is) in
      record {
        inside = omega arith;
        same = same ∙ so_far.same;
        short =
            subst AreShort (sym is_put)
            (put_short source.role source.name read inputs so_far.short (omega (arith, is_read.0, limit_fits source.role)));
        told =
            both_told contents (λ held. AreReadBefore held sources before now i inputs × OthersStay source.name now now')
            (λ held. (read ≡ held source.name) × (length (held source.name) ≤ limit_of source.role))
            (λ held. AreReadBefore held sources before now' (i + 1) inputs')
            (both_told contents (λ held. AreReadBefore held sources before now i inputs) (λ _. OthersStay source.name now now')
            (λ held. AreReadBefore held sources before now i inputs × OthersStay source.name now now') so_far.told
            (subst (λ o. OnSome o (OthersStay source.name now now')) so_far.same stay) (λ held front others. (front, others)))
            (subst (λ o. IfSome o (λ held. (read ≡ held source.name) × (length (held source.name) ≤ limit_of source.role))) so_far.same is_read.1)
            (λ held (front, others) (read_is, short). record {
              inputs_are = ap (λ now. with_files held now rest) is_put
                  ∙ ap (λ b. with_files held (put source.role source.name b inputs) rest) read_is
                  ∙ ap (with_files held inputs) (sym more) ∙ front.inputs_are;
              within = λ k s less at. ⊎_elim (λ earlier. front.within k s earlier at)
                  (λ here. let same_source : s ≡ source = cc (at_index sources i source inside is) in subst (λ t. length (held t.name) ≤ limit_of t.role)
                  (sym same_source) short) (before_or_here k less);
              others = others_after held now' front others;
            });
        reads = λ name. let one = so_far.reads name in let two = on name in (omega arith, omega arith);
        calm = λ name. calm name ∙ so_far.calm name;
        stays = λ name. stays name ∙ so_far.stays name;
      }
    where
      before_or_here : (k : ℕ) → k < i + 1 → (k < i) ⊎ (k ≡ i)
      before_or_here k less = ⊎_elim (λ l. inl l) (λ m. inr (omega arith)) (cases_lt k i)

module _ {sources : List Source} {contents contents' : Option (List ℕ → List ℕ)} {before now writes writes' : List ℕ → ℕ} {i : ℕ} {inputs : Inputs}
    (so_far : ReadsSoFar sources contents contents' before now writes writes' i inputs) (whole : length sources ≤ i) where
  -- all files were read
  pub all_read : IfSome contents (AreRead sources inputs)
  all_read =
      all_told contents (λ held. AreReadBefore held sources before now i inputs) (AreRead sources inputs) so_far.told
      (λ held front. (
        ap (with_files held inputs) (sym (drop_all i sources whole)) ∙ front.inputs_are,
        lengths_pass held sources
            (λ k s at. let below = slice_get_within sources k s at in front.within k s (omega arith) at),
      ))

  pub all_in_order : IfSome contents (MakesSomeReads sources before now)
  all_in_order =
      all_told contents (λ held. AreReadBefore held sources before now i inputs) (MakesSomeReads sources before now) so_far.told
      (λ held front.
      let same : i ≡ length sources = omega (arith, so_far.inside) in (
        length sources,
        record {
          few = omega arith;
          within = λ k s less. front.within k s (omega arith);
          others = λ name differs. front.others name (λ k s less. differs k s (omega arith));
        },
      ))

module _ {S : Type 0} (gives : S → List ℕ → ℕ → Result (List ℕ) ReadErr → S → Type 0) (sources : List Source) (before between now : S) (i : ℕ)
    (source : Source) (reads : AreReads gives sources before i between) (inside : i < length sources) (is : source ≡ get_or sources i source) where
  -- one read more
  pub one_read_more : (bytes : List ℕ) → ReadsOnce gives source between (Ok bytes) now → AreReads gives sources before (i + 1) now
  one_read_more bytes read = made.OneMore i source bytes between now reads (at_index sources i source inside is) read

  -- the read of this file was refused
  pub stops_at : (refusal : Refusal) → IsRefusedRead gives source between refusal now → StopsReading gives sources before refusal now
  stops_at refusal refused =
      record { made = i; between = between; reads = reads; last = inr (source, at_index sources i source inside is, refused) }

-- memory ran out after these reads
pub stops_without : {S : Type 0} (gives : S → List ℕ → ℕ → Result (List ℕ) ReadErr → S → Type 0) (sources : List Source) (before now : S) (i : ℕ)
    → AreReads gives sources before i now → StopsReading gives sources before Memory now
stops_without gives sources before now i reads = record { made = i; between = now; reads = reads; last = inl (refl, refl) }

-- all files were read
pub all_reads : {S : Type 0} (gives : S → List ℕ → ℕ → Result (List ℕ) ReadErr → S → Type 0) (sources : List Source) (before now : S) (i : ℕ)
    → AreReads gives sources before i now → i ≡ length sources → AreReads gives sources before (length sources) now
all_reads gives sources before now i reads all = subst (λ n. AreReads gives sources before n now) all reads
