-- Why a name is written in place.
use Rattle.std.specs.Prelude.{◌≡◌, ◌⊎◌, ℕ, List, codes}
use Rattle.std.specs.Fs.{file_type, IsFile, IsSymlink}
use Rattle.std.specs.Path.{path_buf_bytes, PathStartsWith}
use Rattle.std.specs.declared.io.Error.{Error}
use Rattle.std.specs.declared.io.ErrorKind.TheVariants.{PermissionDenied, ReadOnlyFilesystem, ResourceBusy, CrossesDevices}
use Rattle.std.specs.IoError.{error_kind}
use Rattle.rbbi_io.specs.declared.real_draft.Fixed.{Fixed}
use Rattle.rbbi_io.specs.declared.real_draft.Fixed.TheVariants.{Special, Open, NoDraft, NotRenamed}

-- a link of this path leads to what a process has open
abbrev pub IsOfProcess : List ℕ → Type 0
IsOfProcess path = PathStartsWith path (codes "/proc") ⊎ PathStartsWith path (codes "/dev/fd")

-- the system makes no draft in the folder
abbrev pub ForbidsDraft : Error → Type 0
ForbidsDraft fault = (error_kind fault ≡ PermissionDenied) ⊎ (error_kind fault ≡ ReadOnlyFilesystem)

-- the system gives the name to no other file
abbrev pub ForbidsRename : Error → Type 0
ForbidsRename fault = (error_kind fault ≡ PermissionDenied) ⊎ ((error_kind fault ≡ ResourceBusy) ⊎ (error_kind fault ≡ CrossesDevices))

-- what the system said is a reason to write in place
abbrev pub IsReason : {A : Type 0} → Fixed A → Type 0
IsReason (Special old) = ¬ IsFile (file_type old) × ¬ IsSymlink (file_type old)
IsReason (Open path) = IsOfProcess (path_buf_bytes path)
IsReason (NoDraft fault) = ForbidsDraft fault
IsReason (NotRenamed fault) = ForbidsRename fault
