use Rattle.std.proofs.Common.{◌≡◌, ◌++◌, ◌+◌, ◌∷◌, [], List, ℕ, map, drop, length, sym, ap, ◌∙◌, subst, arith}
use Rattle.std.specs.List.{flat_map, AllByRecursion}
use Rattle.std.specs.String.{string_bytes}
use Rattle.std.proofs.lemmas.List.{length-map}
use Rattle.rbbi_model.proofs.Lists.{all_append}
use Rattle.rbbi_command.specs.declared.words.setting.Setting.{Setting}
use Rattle.rbbi_command.specs.Settings.{IsSetting, spelled, BeginsWithoutOption}
use Rattle.rbbi_command.proofs.SettingLemmas.{no_settings, words_push, words_left, some_words}
use Rattle.rbbi_command.proofs.words.setting.settings_of.Goals as goal

pub returns-in_default : goal.returns-in_default
returns-in_default c = λ settings rest reading.
    let words : List (List ℕ) = map string_bytes c.args.words.now in
    let left : List (List ℕ) = drop c.options.at words in
    let none = rw c.in_default.is at c.in_ok-setting.ensures in
    no_settings words left c.options.list.items settings rest c.options.invariant.are c.options.invariant.each
    (subst (λ w. ¬ BeginsWithoutOption w) c.behind.ensures c.options-test.ensures)
    (λ s more form is. none s more form (c.behind-in-options.ensures ∙ is)) reading

pub options-preserved : goal.options-preserved
options-preserved c =
    let words : List (List ℕ) = map string_bytes c.args.words.now in
    let long = length-map c.args.words.now string_bytes in
    let found = rw c.in-Some.is at c.in_ok-setting.ensures in
    let left = words_left words _ c.in-Some.setting c.options.at (omega (arith, long, c.options.invariant.within)) c.behind-in-options.ensures found.1 in
    let s : Setting = c.in-Some.setting in
    let pushed : c.push.new.self.items ≡ c.options.list.items ++ s ∷ [] = c.in_ok-push.ensures.items in
    let at : c.options.at + c.words-at.result ≡ c.options.at + length (spelled s) = ap (λ n. c.options.at + n) c.words-at.ensures in
    record {
      within = omega (arith, long, at, left.1);
      are = words_push words c.options.list.items s c.options.at c.options.invariant.are left.0
          ∙ ap (λ n. flat_map spelled (c.options.list.items ++ s ∷ []) ++ drop n words) (sym at)
          ∙ ap (λ ss. flat_map spelled ss ++ drop (c.options.at + c.words-at.result) words) (sym pushed);
      each = subst (AllByRecursion IsSetting) (sym pushed) (all_append IsSetting c.options.list.items (s ∷ []) c.options.invariant.each (found.0, tt));
    }

pub options-smaller : goal.options-smaller
options-smaller c =
    let words : List (List ℕ) = map string_bytes c.args.words.now in
    let long = length-map c.args.words.now string_bytes in
    let found = rw c.in-Some.is at c.in_ok-setting.ensures in
    let left = words_left words _ c.in-Some.setting c.options.at (omega (arith, long, c.options.invariant.within)) c.behind-in-options.ensures found.1 in
    omega (arith, some_words c.in-Some.setting, c.words-at.ensures, long, left.1)

pub returns : goal.returns
returns c = (
  c.options.invariant.within,
  record {
    are = c.options.invariant.are;
    each = c.options.invariant.each;
    no_option = subst BeginsWithoutOption c.behind.ensures c.options-test.ensures;
  },
)
