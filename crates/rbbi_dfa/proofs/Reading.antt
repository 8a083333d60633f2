-- Which positions can read the last code point of a word, from the first code point on.
use Rattle.std.proofs.Common.{◌≡◌, ◌≢◌, ℕ, ◌+◌, ◌-◌, ◌≤◌, ◌⊎◌, true, List, [], ◌∷◌, ◌++◌, length, take, drop, sym, refl, ap, ◌∙◌, subst, inl, inr, ⊎_elim}
use Rattle.std.proofs.Common.{arith}
use Rattle.std.specs.Prelude.{slice_range}
use Rattle.std.proofs.lemmas.Bool.{cases_lt}
use Rattle.std.proofs.lemmas.List.{length_push, take_all, take_at, drop-append-le, length-take, length-drop}
use Rattle.std.specs.List.{AllByRecursion}
use Rattle.rbbi_model.specs.Rules.{Rule, IsLawfulRule, IsWordOf, IsFrontWordOf}
use Rattle.rbbi_model.specs.Chains.{IsRule, EndsAt, Word, Chained, FrontEndsAt}
use Rattle.rbbi_model.specs.LeafSets.{Reads, ReadsLast, BeginsToRead, IsChainedToRead}
use Rattle.rbbi_model.proofs.RulesCover.{ends_lie}
use Rattle.rbbi_dfa.specs.inner.PositionAutomata.{FirstOf, LastOf, FollowsIn, FrontLastOf, Chainable}
use Rattle.rbbi_dfa.proofs.WalkReading.{starts, extends, firsts, shrinks, reads_code, words, wholes, front_words, front_wholes}
use Rattle.rbbi_model.proofs.Local.{ends_to, ends_from}

-- the position can read the last code point of the word, whatever look-ahead rules end before
abbrev pub ReadBy : List Rule → List ℕ → ℕ → Type 0
ReadBy rules w position = BeginsToRead rules w position ⊎ IsChainedToRead rules w position

-- words by their last code point

push_piece : (w : List ℕ) (c m : ℕ) → m ≤ length w → slice_range (w ++ c ∷ []) m (length (w ++ c ∷ [])) ≡ slice_range w m (length w) ++ c ∷ []
push_piece w c m short =
    let long : length (w ++ c ∷ []) - m ≡ length (drop m w ++ c ∷ []) = omega (arith, length_push w c, length_push (drop m w) c, length-drop m w) in
    let long' : length w - m ≡ length (drop m w) = omega (arith, length-drop m w) in
    ap (λ l. take (length (w ++ c ∷ []) - m) l) (drop-append-le m w (c ∷ []) short)
    ∙ ap (λ n. take n (drop m w ++ c ∷ [])) long
    ∙ take_all (length (drop m w ++ c ∷ [])) (drop m w ++ c ∷ []) (omega arith)
    ∙ ap (λ l. l ++ c ∷ []) (sym (ap (λ n. take n (drop m w)) long' ∙ take_all (length (drop m w)) (drop m w) (omega arith)))

last_piece : (w : List ℕ) (c : ℕ) → slice_range (w ++ c ∷ []) (length w) (length (w ++ c ∷ [])) ≡ c ∷ []
last_piece w c =
    push_piece w c (length w) (omega arith)
    ∙ ap (λ l. l ++ c ∷ []) (let none : length w - length w ≡ 0 = omega arith in ap (λ n. take n (drop (length w) w)) none)

pub whole_piece : (w : List ℕ) → slice_range w 0 (length w) ≡ w
whole_piece w = let same : length w - 0 ≡ length w = omega arith in ap (λ n. take n w) same ∙ take_all (length w) w (omega arith)

pub front_piece : (w : List ℕ) (c : ℕ) → slice_range (w ++ c ∷ []) 0 (length w) ≡ w
front_piece w c =
    let same : length w - 0 ≡ length w = omega arith in
    ap (λ n. take n (w ++ c ∷ [])) same ∙ take_at w (c ∷ []) (length w) refl

pub some_push : (w : List ℕ) (c : ℕ) → w ++ c ∷ [] ≢ []
some_push w c none = omega (arith, length_push w c, ap length none)

-- what ends within a word ends so in the word with one more code point, and the other way
pub ends_longer : (rules : List Rule) (w : List ℕ) (c m number : ℕ) → EndsAt rules w 0 m number → EndsAt rules (w ++ c ∷ []) 0 m number
ends_longer rules w c m number ends =
    subst (λ e. EndsAt rules (w ++ c ∷ []) 0 e number) (let same : 0 + m ≡ m = omega arith in same)
    (ends_from rules (w ++ c ∷ []) 0 (length w) (omega arith) (omega (arith, length_push w c)) m number
    (subst (λ v. EndsAt rules v 0 m number) (sym (front_piece w c)) ends))

pub ends_shorter : (rules : List Rule) (w : List ℕ) (c m number : ℕ) → m ≤ length w → EndsAt rules (w ++ c ∷ []) 0 m number → EndsAt rules w 0 m number
ends_shorter rules w c m number short ends =
    subst (λ v. EndsAt rules v 0 m number) (front_piece w c)
    (subst (λ e. EndsAt rules (slice_range (w ++ c ∷ []) 0 (length w)) 0 e number) (let same : m - 0 ≡ m = omega arith in same)
    (ends_to rules (w ++ c ∷ []) 0 (length w) (omega arith) (omega (arith, length_push w c)) m number short ends))

module _ (rules : List Rule) (lawful : AllByRecursion IsLawfulRule rules) where
  -- the position can come next after the word, without a chain there
  pub record ComesFirst (w : List ℕ) (p : ℕ) : Type 0 where
    pub none : w ≡ []
    pub number : ℕ
    pub rule : Rule
    pub is_rule : IsRule rules number rule
    pub first : FirstOf rules number p

  pub record ComesAfter (w : List ℕ) (p : ℕ) : Type 0 where
    pub some : w ≢ []
    pub number : ℕ
    pub q : ℕ
    pub read : ReadBy rules w q
    pub follows : FollowsIn rules number q p

  abbrev pub Comes : List ℕ → ℕ → Type 0
  Comes w p = ComesFirst w p ⊎ ComesAfter w p

  -- some position that can come next reads the code point and is last
  pub record EndsNow (w : List ℕ) (c : ℕ) : Type 0 where
    pub number : ℕ
    pub q : ℕ
    pub comes : Comes w q
    pub reads : Reads rules q c
    pub last : LastOf rules number q

  -- the position is first in a rule that is chained into where a rule ends with the code point
  pub record ComesChained (w : List ℕ) (c p : ℕ) : Type 0 where
    pub number : ℕ
    pub chained : Chainable rules number
    pub first : FirstOf rules number p
    pub ends : EndsNow w c

  abbrev pub ReadsNext : List ℕ → ℕ → ℕ → Type 0
  ReadsNext w c p = Reads rules p c × (Comes w p ⊎ ComesChained w c p)

  cases_nil : (w : List ℕ) → (w ≡ []) ⊎ (w ≢ [])
  cases_nil [] = inl refl
  cases_nil (c ∷ w) = inr (λ none. omega (arith, ap length none))

  push_nil : (w : List ℕ) (c : ℕ) → w ≡ [] → w ++ c ∷ [] ≡ c ∷ []
  push_nil w c none = ap (λ l. l ++ c ∷ []) none

  -- what a rule begins to read from the start comes next
  begins_comes : (number p c : ℕ) (rule : Rule) (w : List ℕ) → IsRule rules number rule → ReadsLast rules number rule (w ++ c ∷ []) p → Comes w p
  begins_comes number p c rule w is_rule reads =
      ⊎_elim
      (λ none.
      inl (record {
        none = none;
        number = number;
        rule = rule;
        is_rule = is_rule;
        first =
            firsts rules lawful number p c rule is_rule (subst (λ l. ReadsLast rules number rule l p) (push_nil w c none) reads);
      }))
      (λ some.
      let shorter = shrinks rules lawful number p c rule w is_rule some reads in
      inr (record {
        some = some;
        number = number;
        q = shorter.0;
        read =
            inl (record { number = number; rule = rule; is_rule = is_rule; reads = shorter.1 });
        follows = shorter.2;
      }))
      (cases_nil w)

  -- what a rule that is chained into before the last code point begins to read comes next
  chained_comes : (number p c m before : ℕ) (rule : Rule) (w : List ℕ) → IsRule rules number rule → rule.chained_into ≡ true →
      EndsAt rules (w ++ c ∷ []) 0 m before → m ≤ length w → ReadsLast rules number rule (slice_range (w ++ c ∷ []) (m - 1) (length (w ++ c ∷ []))) p →
      Comes w p
  chained_comes number p c m before rule w is_rule chained_into ends short reads =
      let lies = ends_lie rules (w ++ c ∷ []) 0 m before ends in
      let v : List ℕ = slice_range w (m - 1) (length w) in
      let some : v ≢ [] = λ none. omega (arith, ap length none, length-take (length w - (m - 1)) (drop (m - 1) w), length-drop (m - 1) w, lies.0) in
      let reads' = subst (λ l. ReadsLast rules number rule l p) (push_piece w c (m - 1) (omega arith)) reads in
      let shorter = shrinks rules lawful number p c rule v is_rule some reads' in
      inr (record {
        some = λ none. omega (arith, ap length none, lies.0);
        number = number;
        q = shorter.0;
        read = inr (record {
          m = m;
          before = before;
          ends = ends_shorter rules w c m before short ends;
          number = number;
          rule = rule;
          is_rule =
              is_rule;
          chained_into = chained_into;
          reads = shorter.1;
        });
        follows = shorter.2;
      })

  -- where a rule ends with the last code point, a position that comes next reads it and is last
  ends_now : (w : List ℕ) (c e number : ℕ) → EndsAt rules (w ++ c ∷ []) 0 e number → e ≡ length (w ++ c ∷ []) → EndsNow w c
  ends_now w c _ _ (Word e number rule is_rule piece) at =
      let same : slice_range (w ++ c ∷ []) 0 e ≡ w ++ c ∷ [] = ap (λ n. slice_range (w ++ c ∷ []) 0 n) at ∙ whole_piece (w ++ c ∷ []) in
      let read = words rules lawful number rule (w ++ c ∷ []) is_rule (subst (IsWordOf rule) same piece.word) in
      record {
        number = number;
        q = read.0;
        comes = begins_comes number read.0 c rule w is_rule read.1;
        reads =
            reads_code rules lawful number read.0 c rule w is_rule read.1;
        last = read.2;
      }
  ends_now w c _ _ (Chained m before e number rule ends is_rule chained_into piece) at =
      let lies = ends_lie rules (w ++ c ∷ []) 0 m before ends in
      ⊎_elim
      (λ less.
      let same : slice_range (w ++ c ∷ []) (m - 1) e ≡ slice_range (w ++ c ∷ []) (m - 1) (length (w ++ c ∷ [])) =
      ap (λ n. slice_range (w ++ c ∷ []) (m - 1) n) at in
      let read = words rules lawful number rule (slice_range (w ++ c ∷ []) (m - 1) (length (w ++ c ∷ []))) is_rule (subst (IsWordOf rule) same piece.word) in
      let reads = reads_code rules lawful number read.0 c rule (slice_range w (m - 1) (length w)) is_rule
      (subst (λ l. ReadsLast rules number rule l read.0) (push_piece w c (m - 1) (omega (arith, length_push w c))) read.1) in
      record {
        number = number;
        q = read.0;
        comes =
            chained_comes number read.0 c m before rule w is_rule chained_into ends (omega (arith, length_push w c)) read.1;
        reads = reads;
        last = read.2;
      })
      (λ more. ends_now w c m before ends (omega (arith, lies.1)))
      (cases_lt m (length (w ++ c ∷ [])))

  -- what comes next and reads the code point can read it
  comes_reads : (w : List ℕ) (c p : ℕ) → Reads rules p c → Comes w p → ReadBy rules (w ++ c ∷ []) p
  comes_reads w c p reads =
      ⊎_elim
      (λ first.
      inl (record {
        number = first.number;
        rule = first.rule;
        is_rule = first.is_rule;
        reads =
            subst (λ l. ReadsLast rules first.number first.rule l p) (sym (push_nil w c first.none))
            (starts rules lawful first.number p c first.rule first.is_rule first.first reads);
      }))
      (λ after.
      ⊎_elim
      (λ begun. inl (record {
        number = begun.number;
        rule = begun.rule;
        is_rule = begun.is_rule;
        reads =
            extends rules lawful begun.number after.number after.q p c begun.rule w begun.is_rule begun.reads after.follows reads;
      }))
      (λ chained.
      let lies = ends_lie rules w 0 chained.m chained.before chained.ends in
      let reads' = extends rules lawful chained.number after.number after.q p c chained.rule (slice_range w (chained.m - 1) (length w)) chained.is_rule
      chained.reads after.follows reads in
      inr (record {
        m = chained.m;
        before = chained.before;
        ends = ends_longer rules w c chained.m chained.before chained.ends;
        number = chained.number;
        rule = chained.rule;
        is_rule = chained.is_rule;
        chained_into = chained.chained_into;
        reads = subst (λ l. ReadsLast rules chained.number chained.rule l p) (sym (push_piece w c (chained.m - 1) (omega (arith, lies.1)))) reads';
      }))
      after.read)

  -- where a last position reads the last code point, its rule ends there
  pub read_ends : (w : List ℕ) (number p : ℕ) → ReadBy rules w p → LastOf rules number p → EndsAt rules w 0 (length w) number
  read_ends w number p read last =
      ⊎_elim
      (λ begun.
      let whole = wholes rules lawful begun.number number p begun.rule w begun.is_rule begun.reads last in
      subst (λ n. EndsAt rules w 0 (length w) n) whole.0
      (Word (length w) begun.number begun.rule begun.is_rule
      (record { starts = omega arith; ends = omega arith; word = subst (IsWordOf begun.rule) (sym (whole_piece w)) whole.1 })))
      (λ chained.
      let lies = ends_lie rules w 0 chained.m chained.before chained.ends in
      let whole = wholes rules lawful chained.number number p chained.rule (slice_range w (chained.m - 1) (length w)) chained.is_rule chained.reads last in
      subst (λ n. EndsAt rules w 0 (length w) n) whole.0
      (Chained chained.m chained.before (length w) chained.number chained.rule chained.ends chained.is_rule chained.chained_into
      (record { starts = omega (arith, lies.1); ends = omega arith; word = whole.1 })))
      read

  -- where a rule ends with the word, one of its last positions reads the last code point
  ends_read_at : (w : List ℕ) (e number : ℕ) → EndsAt rules w 0 e number → e ≡ length w → (p : ℕ) × ReadBy rules w p × LastOf rules number p
  ends_read_at w _ _ (Word e number rule is_rule piece) at =
      let same : slice_range w 0 e ≡ w = ap (λ n. slice_range w 0 n) at ∙ whole_piece w in
      let read = words rules lawful number rule w is_rule (subst (IsWordOf rule) same piece.word) in
      (read.0, inl (record { number = number; rule = rule; is_rule = is_rule; reads = read.1 }), read.2)
  ends_read_at w _ _ (Chained m before e number rule ends is_rule chained_into piece) at =
      let same : slice_range w (m - 1) e ≡ slice_range w (m - 1) (length w) = ap (λ n. slice_range w (m - 1) n) at in
      let read = words rules lawful number rule (slice_range w (m - 1) (length w)) is_rule (subst (IsWordOf rule) same piece.word) in (
        read.0,
        inr (record {
          m = m;
          before = before;
          ends = ends;
          number = number;
          rule = rule;
          is_rule = is_rule;
          chained_into = chained_into;
          reads =
              read.1;
        }),
        read.2,
      )

  pub ends_read : (w : List ℕ) (number : ℕ) → EndsAt rules w 0 (length w) number → (p : ℕ) × ReadBy rules w p × LastOf rules number p
  ends_read w number ends = ends_read_at w (length w) number ends refl

  -- the same of fronts
  pub front_read : (w : List ℕ) (number : ℕ) → FrontEndsAt rules w 0 (length w) number → (p : ℕ) × ReadBy rules w p × FrontLastOf rules number p
  front_read w number ends =
      ⊎_elim
      (λ piece.
      let read = front_words rules lawful number ends.rule w ends.is_rule (subst (IsFrontWordOf ends.rule) (whole_piece w) piece.word) in
      (read.0, inl (record { number = number; rule = ends.rule; is_rule = ends.is_rule; reads = read.1 }), read.2))
      (λ chained.
      let read = front_words rules lawful number ends.rule (slice_range w (chained.m - 1) (length w)) ends.is_rule chained.piece.word in (
        read.0,
        inr (record {
          m = chained.m;
          before = chained.before;
          ends = chained.ends;
          number = number;
          rule = ends.rule;
          is_rule =
              ends.is_rule;
          chained_into = chained.chained_into;
          reads = read.1;
        }),
        read.2,
      ))
      ends.front

  pub read_front : (w : List ℕ) (number p : ℕ) → ReadBy rules w p → FrontLastOf rules number p → FrontEndsAt rules w 0 (length w) number
  read_front w number p read last =
      ⊎_elim
      (λ begun.
      let whole = front_wholes rules lawful begun.number number p begun.rule w begun.is_rule begun.reads last in
      subst (λ n. FrontEndsAt rules w 0 (length w) n) whole.0
      (record {
        rule = begun.rule;
        is_rule = begun.is_rule;
        front =
            inl (record { starts = omega arith; ends = omega arith; word = subst (IsFrontWordOf begun.rule) (sym (whole_piece w)) whole.1 });
      }))
      (λ chained.
      let lies = ends_lie rules w 0 chained.m chained.before chained.ends in
      let whole = front_wholes rules lawful chained.number number p chained.rule (slice_range w (chained.m - 1) (length w)) chained.is_rule chained.reads
      last in
      subst (λ n. FrontEndsAt rules w 0 (length w) n) whole.0
      (record {
        rule = chained.rule;
        is_rule = chained.is_rule;
        front = inr (record {
          m = chained.m;
          before = chained.before;
          ends = chained.ends;
          chained_into = chained.chained_into;
          piece =
              record { starts = omega (arith, lies.1); ends = omega arith; word = whole.1 };
        });
      }))
      read

  -- which positions can read one code point more
  pub reads_next : (w : List ℕ) (c p : ℕ) → ReadBy rules (w ++ c ∷ []) p → ReadsNext w c p
  reads_next w c p =
      ⊎_elim
      (λ begun. (
        reads_code rules lawful begun.number p c begun.rule w begun.is_rule begun.reads,
        inl
            (begins_comes begun.number p c begun.rule w begun.is_rule begun.reads),
      ))
      (λ chained.
      let lies = ends_lie rules (w ++ c ∷ []) 0 chained.m chained.before chained.ends in
      let long = length_push w c in
      ⊎_elim
      (λ less.
      let reads = reads_code rules lawful chained.number p c chained.rule (slice_range w (chained.m - 1) (length w)) chained.is_rule
      (subst (λ l. ReadsLast rules chained.number chained.rule l p) (push_piece w c (chained.m - 1) (omega (arith, long))) chained.reads) in (
        reads,
        inl (chained_comes chained.number p c chained.m chained.before chained.rule w chained.is_rule chained.chained_into chained.ends
            (omega (arith, long)) chained.reads),
      ))
      (λ more.
      let here : chained.m - 1 ≡ length w = omega (arith, long, lies.1) in
      let one : slice_range (w ++ c ∷ []) (chained.m - 1) (length (w ++ c ∷ [])) ≡ c ∷ [] = ap (λ n. slice_range (w ++ c ∷ []) n (length (w ++ c ∷ []))) here
      ∙ last_piece w c in
      let read = subst (λ l. ReadsLast rules chained.number chained.rule l p) one chained.reads in (
        reads_code rules lawful chained.number p c chained.rule [] chained.is_rule read,
        inr (record {
          number = chained.number;
          chained = record { rule = chained.rule; is_rule = chained.is_rule; chained_into = chained.chained_into };
          first = firsts rules lawful chained.number p c chained.rule chained.is_rule read;
          ends = ends_now w c chained.m chained.before chained.ends (omega (arith, lies.1));
        }),
      ))
      (cases_lt chained.m (length (w ++ c ∷ []))))

  pub next_reads : (w : List ℕ) (c p : ℕ) → ReadsNext w c p → ReadBy rules (w ++ c ∷ []) p
  next_reads w c p next =
      ⊎_elim
      (λ comes. comes_reads w c p next.0 comes)
      (λ chained.
      let rule : Rule = chained.chained.rule in
      let ends = read_ends (w ++ c ∷ []) chained.ends.number chained.ends.q (comes_reads w c chained.ends.q chained.ends.reads chained.ends.comes)
      chained.ends.last in
      let long = length_push w c in
      let here : length (w ++ c ∷ []) - 1 ≡ length w = omega (arith, long) in
      let one : slice_range (w ++ c ∷ []) (length (w ++ c ∷ []) - 1) (length (w ++ c ∷ [])) ≡ c ∷ [] =
      ap (λ n. slice_range (w ++ c ∷ []) n (length (w ++ c ∷ []))) here ∙ last_piece w c in
      inr (record {
        m = length (w ++ c ∷ []);
        before = chained.ends.number;
        ends = ends;
        number = chained.number;
        rule = rule;
        is_rule = chained.chained.is_rule;
        chained_into = chained.chained.chained_into;
        reads = subst (λ l. ReadsLast rules chained.number rule l p) (sym one)
            (starts rules lawful chained.number p c rule chained.chained.is_rule chained.first next.0);
      }))
      next.1
