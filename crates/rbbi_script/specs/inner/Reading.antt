-- What the first part of listing all boundaries asks and leaves.
use Rattle.std.specs.Prelude.{◌≡◌, ℕ, List, ◌∷◌, ◌++◌, map, Result, Ok, Err}
use Rattle.rbbi_model.specs.Boundaries.{Boundary}
use Rattle.rbbi_model.specs.Answers.{First, Next}
use Rattle.rbbi_session.specs.Walks.{View, reported, AreAsked}

-- the session has the same setting and text
pub record IsSameText {A Setting : Type 0} (view : View A Setting) (old now : A) : Type 0 where
  pub same : view.setting now ≡ view.setting old
  pub text_is : (view.state now).text ≡ (view.state old).text

module _ {A Setting : Type 0} (view : View A Setting) where
  -- the session has gone to the first boundary and on from each of these
  abbrev pub AsksNexts : List Boundary → A → A → ℕ → ℕ → Type 0
  AsksNexts boundaries old new before after = AreAsked view (First ∷ map (λ boundary. Next) boundaries) old new before after

  -- it has gone on from each of its boundaries in order, or where memory ran out, from each of the first ones
  abbrev pub ListsNexts : {T E : Type 0} → A → Result T E → A → ℕ → ℕ → Type 0
  ListsNexts old (Ok done) new before after = AsksNexts (reported view old) old new before after
  ListsNexts old (Err error) new before after =
      (first rest : List Boundary) × (reported view old ≡ first ++ rest) × AsksNexts first old new before after
