-- What is printed by a table is printed by the boundaries that it gives; what was read of files and standard input.
use Rattle.std.proofs.Common.{◌≡◌, ℕ, ◌+◌, ◌<◌, ◌≤◌, Bool, ◌==◌, List, [], ◌∷◌, ◌++◌, length, take, get_or, Option, Some, None, refl, sym, ap, ◌∙◌, subst, arith}
use Rattle.std.proofs.Common.{length-take-le}
use Rattle.std.specs.Prelude.{◌≢◌, Result, Ok, Err, OnOk, IfOk, IfSome, codes}
use Rattle.std.specs.Borrow.{Bor}
use Rattle.std.specs.Io.KnownBytes.{Consumes}
use Rattle.std.proofs.KnownBytes.{Consumes-all}
use Rattle.std.proofs.lemmas.List.{take_more}
use Rattle.std.proofs.lemmas.Option.{IfSome_then}
use Rattle.rbbi_model.specs.declared.unit.Unit.{Unit as TextUnit}
use Rattle.rbbi_model.specs.Words.{IsText}
use Rattle.rbbi_model.specs.Boundaries.{Boundary}
use Rattle.rbbi_model.specs.Tables.{Table}
use Rattle.rbbi_io.specs.Answers.{AnswersRead}
use Rattle.rbbi_io.specs.Sinks.{Takes}
use Rattle.rbbi_io.specs.declared.error.ReadErr.{ReadErr}
use Rattle.rbbi_filter.specs.declared.filter.Filter.{Filter}
use Rattle.rbbi_props.specs.Rows.{File}
use Rattle.rbbi_segment.specs.declared.colors.Colors.{Colors}
use Rattle.rbbi_segment.specs.declared.only.Wanted.{Wanted}
use Rattle.rbbi_segment.specs.declared.options.Asked.{Asked}
use Rattle.rbbi_segment.specs.declared.options.Basis.{Basis}
use Rattle.rbbi_segment.specs.declared.options.Basis.TheVariants.{BuiltIn, Rules, Table as OfFile}
use Rattle.rbbi_segment.specs.declared.options.Format.{Format}
use Rattle.rbbi_segment.specs.declared.options.Property.{Property}
use Rattle.rbbi_segment.specs.declared.options.Request.{Request}
use Rattle.rbbi_segment.specs.declared.options.Task.{Task}
use Rattle.rbbi_segment.specs.declared.options.Task.TheVariants.{Check, Lint, Segment}
use Rattle.rbbi_segment.specs.Contents.{IsRead, IsTextGiven, text_in}
use Rattle.rbbi_segment.specs.Filters.{searched, reported}
use Rattle.rbbi_segment.specs.Lines.{lines_in}
use Rattle.rbbi_segment.specs.Runs.{Moment, Manner, AreTakenInTurn, OneText, IsDone, printed}
use Rattle.rbbi_segment.specs.Segments.{segments, segments_between}
use Rattle.rbbi_segment.specs.Tables.{AddsProperty, ArePropertiesOf, OneFile, GivesBreaks, IsTableOf, breaks_of}

-- what holds of an `Ok` leads to more
pub if_ok : {T E : Type 0} {P Q : T → Type 0} (r : Result T E) → ((v : T) → P v → Q v) → IfOk r P → IfOk r Q
if_ok (Ok v) more holds = more v holds
if_ok (Err e) more holds = holds

-- what a read of standard input gives, and of a file
pub standard_read : (contents : Option (List ℕ → List ℕ)) (input left : Option (List ℕ)) (name : List ℕ) (limit : ℕ) (r : Result (List ℕ) ReadErr)
    → name ≡ codes "-" → IfSome input (λ held. AnswersRead held limit r) → ((taken : List ℕ) × Consumes input left taken)
    → IfOk r (λ bytes. IsRead contents input name bytes left)
standard_read contents input left name limit (Err e) is answers taken = tt
standard_read contents input left name limit (Ok bytes) is answers taken = record {
  file = λ other. absurd (other is);
  standard = λ same.
      (IfSome_then input {P = λ held. AnswersRead held limit (Ok bytes)} {Q = λ held. bytes ≡ held} answers (λ held answer. answer.0), taken);
}

pub file_read : (contents : Option (List ℕ → List ℕ)) (input : Option (List ℕ)) (name : List ℕ) (limit : ℕ) (r : Result (List ℕ) ReadErr)
    → name ≢ codes "-" → IfSome contents (λ held. AnswersRead (held name) limit r) → IfOk r (λ bytes. IsRead contents input name bytes input)
file_read contents input name limit (Err e) other answers = tt
file_read contents input name limit (Ok bytes) other answers = record {
  file = λ same.
      (IfSome_then contents {P = λ held. AnswersRead (held name) limit (Ok bytes)} {Q = λ held. bytes ≡ held name} answers (λ held answer. answer.0), refl);
  standard = λ is. absurd (other is);
}

-- the text of a reader that gives what the name holds is the text of that
pub opened : (is_lossy : Bool) (contents : Option (List ℕ → List ℕ)) (before now : Option (List ℕ)) (name x : List ℕ)
    → IfSome contents (λ held. before ≡ Some (held name)) → IsTextGiven is_lossy before x now
    → IfSome contents (λ held. x ≡ text_in is_lossy (held name))
opened is_lossy contents before now name x gives given =
    IfSome_then contents {P = λ held. before ≡ Some (held name)} {Q = λ held. x ≡ text_in is_lossy (held name)} gives
    (λ held same.
    let all = subst (λ r. Consumes r now given.0) same given.1 in
    let bytes : given.0 ≡ held name = Consumes-all (Some (held name)) now given.0 [] given.0 all given.2 refl in
    given.3 ∙ ap (text_in is_lossy) bytes)

-- one property file more was read
pub more_properties : (contents told : Option (List ℕ → List ℕ)) (input between left : Option (List ℕ)) (given : List Property) (i : ℕ) (d : Property)
    (old new : List File) → told ≡ contents → i < length given → ArePropertiesOf contents input (take i given) old between
    → AddsProperty told between (get_or given i d) old new left → ArePropertiesOf contents input (take (i + 1) given) new left
more_properties contents told input between left given i d old new same inside so_far one =
    subst (λ l. ArePropertiesOf contents input l new left) (sym (take_more given i d inside))
    (OneFile (take i given) (get_or given i d) old new between left so_far
    (subst (λ t. AddsProperty t between (get_or given i d) old new left) same one))

-- the table that is asked for gives the boundaries that are asked for
pub gives_breaks : (contents : Option (List ℕ → List ℕ)) (input : Option (List ℕ)) (request : Request) (basis : Basis) (table : Table)
    (left : Option (List ℕ)) → IsTableOf contents input request basis table left → GivesBreaks table (breaks_of basis table)
gives_breaks contents input request (BuiltIn kind) table left is = is.0.1
gives_breaks contents input request (Rules name) table left is = λ x text. refl
gives_breaks contents input request (OfFile name) table left is = λ x text. refl

pub breaks_taken : (table : Table) (request : Request) (manner : Manner) (x : List ℕ) (before now : Option (List ℕ))
    → GivesBreaks table manner.breaks → IsText (searched manner.filter x)
    → IfSome (lines_in request.format request.wanted manner.colors x (segments request.unit manner.filter table x)) (Takes before now)
    → IfSome (printed request manner x) (Takes before now)
breaks_taken table request manner x before now gives is taken =
    let Puts : List Boundary → Type 0 =
    λ bs.
    IfSome (lines_in request.format request.wanted manner.colors x (segments_between request.unit x (reported manner.filter x bs))) (Takes before now) in
    subst Puts (gives (searched manner.filter x) is) taken

-- what putting the text that a reader gives answers, in a format
abbrev pub PutsIn : {T E : Type 0} → Result T E → Bool → Option (List ℕ) → Option (List ℕ) → Wanted → Colors → TextUnit → Option Filter → Table
    → Option (List ℕ) → Option (List ℕ) → Format → Type 0
PutsIn r is_lossy remaining left wanted colors unit f table before now format = OnOk r ((x : List ℕ) × IsTextGiven is_lossy remaining x left × IsText x
    × IfSome (lines_in format wanted colors x (segments unit f table x)) (Takes before now))

-- one text more was taken
pub more_taken : (takes : Bool → List ℕ → Moment → Moment → Type 0) (before so_far now : Moment) (is_first : Bool)
    (names read : List (Bor (List ℕ))) (i : ℕ) (d : Bor (List ℕ)) → read ≡ names → i < length read → is_first ≡ (i == 0)
    → AreTakenInTurn takes before (take i names) so_far → takes is_first (get_or read i d).now so_far now
    → AreTakenInTurn takes before (take (i + 1) names) now
more_taken takes before so_far now is_first names read i d same within first taken one =
    let inside : i < length names = subst (λ l. i < length l) same within in
    let here : takes (i == 0) (get_or names i d).now so_far now =
    subst (λ l. takes (i == 0) (get_or l i d).now so_far now) same (subst (λ b. takes b (get_or read i d).now so_far now) first one) in
    let numbered : takes (length (take i names) == 0) (get_or names i d).now so_far now =
    subst (λ n. takes (n == 0) (get_or names i d).now so_far now) (sym (length-take-le i names (omega (arith, inside)))) here in
    subst (λ l. AreTakenInTurn takes before l now) (sym (take_more names i d inside)) (OneText (take i names) (get_or names i d) so_far now taken numbered)

-- of what is explained nothing is said
pub explained : {T E : Type 0} (r : Result T E) (task : Task) (asked : Asked) (request : Request) (colors : Colors)
    (files texts : Option (List ℕ → List ℕ)) (before now : Moment) → OnOk r (IsDone task (Some asked) request colors files texts before now)
explained (Err e) task asked request colors files texts before now = tt
explained (Ok v) Check asked request colors files texts before now = tt
explained (Ok v) (Lint name why) asked request colors files texts before now = tt
explained (Ok v) Segment asked request colors files texts before now = tt

pub linted : {T E : Type 0} (r : Result T E) (task : Task) (name : Bor (List ℕ)) (why : Option ℕ) (asked : Option Asked) (request : Request)
    (colors : Colors) (files texts : Option (List ℕ → List ℕ)) (before now : Moment) → task ≡ Lint name why
    → OnOk r (IsDone task asked request colors files texts before now)
linted (Err e) task name why asked request colors files texts before now is = tt
linted (Ok v) task name why asked request colors files texts before now is = rw is tt
