use Rattle.std.proofs.Common.{refl, ap, ◌∙◌, subst}
use Rattle.std.specs.Prelude.{codes}
use Rattle.std.specs.Cmp.Lexicographic.{same_text, other_text}
use Rattle.rbbi_segment.specs.Contents.{IsTextOf}
use Rattle.rbbi_segment.proofs.Carried.{opened}
use Rattle.rbbi_segment.proofs.Handed.{on_ok}
use Rattle.rbbi_segment.proofs.named.put_named.Goals as goal

pub returns-then-eq : goal.returns-then-eq
returns-then-eq g c breaks gives =
    let texts = g.S.System.contents c.args.system.now in
    let input = g.R.Read.remaining c.args.input.now in
    let left = g.R.Read.remaining c.put_headed.new.reader in
    let is = same_text c.args.origin.name.now (codes "-") c.if-eq.ensures in
    on_ok c.put_headed.result
    (λ taken. (
      taken.0,
      subst (λ b. IsTextOf b texts input c.args.origin.name.now taken.0 left) c.requires
          (record { file = λ other. absurd (other is); standard = λ same. taken.1 }),
      taken.2,
    ))
    (c.put_headed.ensures breaks gives)

pub returns-in-Ok : goal.returns-in-Ok
returns-in-Ok g c breaks gives =
    let texts = g.S.System.contents c.args.system.now in
    let input = g.R.Read.remaining c.args.input.now in
    let other = other_text c.args.origin.name.now (codes "-") c.if-eq.ensures in
    on_ok c.put_headed-in-Ok.result
    (λ taken. (
      taken.0,
      subst (λ b. IsTextOf b texts input c.args.origin.name.now taken.0 input) c.requires
          (record {
            file = λ same. (
              opened c.args.origin.is_lossy texts (g.S.Reader.Read.remaining c.in-Ok.reader)
                  (g.S.Reader.Read.remaining c.put_headed-in-Ok.new.reader) c.args.origin.name.now taken.0 c.in-Ok.ensures taken.1,
              refl,
            );
            standard = λ is. absurd (other is);
          }),
      taken.2,
    ))
    (c.put_headed-in-Ok.ensures breaks gives)
