use Rattle.std.proofs.Common.{ap, refl, inl, inr}
use Rattle.rbbi_command.proofs.Delivering.{each_left_told, written_told}
use Rattle.rbbi_command.proofs.delivery.deliver.Goals as goal

pub returns-in-Err-Failed-clause-contents : goal.returns-in-Err-Failed-clause-contents
returns-in-Err-Failed-clause-contents g c =
    each_left_told _ _ _ _ c.output.inside.file _ c.write_file.result (ap (λ o. o.file) c.output.view_is) c.write_file.ensures.held c.write_file.ensures.failed

pub returns-in-Ok-put_all-clause-contents : goal.returns-in-Ok-put_all-clause-contents
returns-in-Ok-put_all-clause-contents g c =
    each_left_told _ _ _ _ c.output.inside.file _ c.write_file.result (ap (λ o. o.file) c.output.view_is) c.write_file.ensures.held c.write_file.ensures.failed

pub returns-in-Err-Failed-put_all-clause-contents : goal.returns-in-Err-Failed-put_all-clause-contents
returns-in-Err-Failed-put_all-clause-contents g c =
    each_left_told _ _ _ _ c.output.inside.file _ c.write_file.result (ap (λ o. o.file) c.output.view_is) c.write_file.ensures.held c.write_file.ensures.failed

pub returns-in-Err-Memory-put_all-clause-contents : goal.returns-in-Err-Memory-put_all-clause-contents
returns-in-Err-Memory-put_all-clause-contents g c =
    each_left_told _ _ _ _ c.output.inside.file _ c.write_file.result (ap (λ o. o.file) c.output.view_is) c.write_file.ensures.held c.write_file.ensures.failed

pub returns-in-Ok-put_all-clause-file_first : goal.returns-in-Ok-put_all-clause-file_first
returns-in-Ok-put_all-clause-file_first g c =
    inr (written_told _ _ c.output.inside.file _ c.write_file.result _ (ap (λ o. o.file) c.output.view_is) c.in-Ok.is c.write_file.ensures.held)

pub returns-in-Err-Failed-put_all-clause-file_first : goal.returns-in-Err-Failed-put_all-clause-file_first
returns-in-Err-Failed-put_all-clause-file_first g c =
    inr (written_told _ _ c.output.inside.file _ c.write_file.result _ (ap (λ o. o.file) c.output.view_is) c.in-Ok.is c.write_file.ensures.held)

pub returns-in-Err-Memory-put_all-clause-file_first : goal.returns-in-Err-Memory-put_all-clause-file_first
returns-in-Err-Memory-put_all-clause-file_first g c =
    inr (written_told _ _ c.output.inside.file _ c.write_file.result _ (ap (λ o. o.file) c.output.view_is) c.in-Ok.is c.write_file.ensures.held)

pub returns-in-Err-Failed-clause-file_first : goal.returns-in-Err-Failed-clause-file_first
returns-in-Err-Failed-clause-file_first g c = inl refl

pub returns-in-Err-Memory-clause-file_first : goal.returns-in-Err-Memory-clause-file_first
returns-in-Err-Memory-clause-file_first g c = inl refl
