-- Rising lists of numbers.
use Rattle.std.proofs.Common.{◌≡◌, ℕ, ◌<◌, ◌≤◌, List, [], ◌∷◌, sym, refl, ap, ◌∙◌, subst, inl, inr, ⊎_elim, arith}
use Rattle.rbbi_model.specs.Lists.{Member, IsRising}

-- what follows the first number rises too
pub rising_tail : (m : ℕ) (ns : List ℕ) → IsRising (m ∷ ns) → IsRising ns
rising_tail m [] rising = tt
rising_tail m (n ∷ ns) rising = rising.1

-- the first number is less than each later one
pub less_than_later : (m : ℕ) (ns : List ℕ) (k : ℕ) → IsRising (m ∷ ns) → Member ns k → m < k
less_than_later m [] k rising later = absurd later
less_than_later m (n ∷ ns) k rising later =
    ⊎_elim (λ is. subst (λ j. m < j) is rising.0) (λ further. let next = less_than_later n ns k rising.1 further in omega (arith, rising.0)) later

-- a number of a rising list isn't less than its first one
pub not_less_than_first : (m : ℕ) (ns : List ℕ) (k : ℕ) → IsRising (m ∷ ns) → Member (m ∷ ns) k → m ≤ k
not_less_than_first m ns k rising here =
    ⊎_elim (λ is. omega arith) (λ later. let less = less_than_later m ns k rising later in omega arith) here

-- what stands in the one tail stands in the other, where the first numbers are the same
tail_members : (m : ℕ) (ms ns : List ℕ) → IsRising (m ∷ ms) → ((k : ℕ) → Member (m ∷ ms) k → Member (m ∷ ns) k) → (k : ℕ) → Member ms k → Member ns k
tail_members m ms ns rising within k here =
    ⊎_elim (λ is. let less = less_than_later m ms k rising here in absurd (omega arith)) (λ later. later) (within k (inr here))

-- rising lists with the same members are the same
pub rising_same : (ms ns : List ℕ) → IsRising ms → IsRising ns → ((k : ℕ) → Member ms k → Member ns k) → ((k : ℕ) → Member ns k → Member ms k) → ms ≡ ns
rising_same [] [] rising rising' to from = refl
rising_same [] (n ∷ ns) rising rising' to from = absurd (from n (inl refl))
rising_same (m ∷ ms) [] rising rising' to from = absurd (to m (inl refl))
rising_same (m ∷ ms) (n ∷ ns) rising rising' to from =
    let low = not_less_than_first m ms n rising (from n (inl refl)) in
    let high = not_less_than_first n ns m rising' (to m (inl refl)) in
    let first : m ≡ n = omega arith in
    let to' : (k : ℕ) → Member (m ∷ ms) k → Member (m ∷ ns) k = subst (λ j. (k : ℕ) → Member (m ∷ ms) k → Member (j ∷ ns) k) (sym first) to in
    let from' : (k : ℕ) → Member (m ∷ ns) k → Member (m ∷ ms) k = subst (λ j. (k : ℕ) → Member (j ∷ ns) k → Member (m ∷ ms) k) (sym first) from in
    let rising'' : IsRising (m ∷ ns) = subst (λ j. IsRising (j ∷ ns)) (sym first) rising' in
    let rest = rising_same ms ns (rising_tail m ms rising) (rising_tail n ns rising') (tail_members m ms ns rising to') (tail_members m ns ms rising'' from') in
    ap (λ j. j ∷ ms) first ∙ ap (λ js. n ∷ js) rest
