-- What compiling a rule file answers.
use Rattle.std.specs.Prelude.{◌⊎◌, ℕ, Bool, List, IsUtf8}
use Rattle.rbbi_props.specs.Rows.{File}
use Rattle.rbbi_text.specs.Bytes.{IsNotUtf8At}
use Rattle.rbbi_compile.specs.declared.error.CompileErr.{CompileErr}
use Rattle.rbbi_compile.specs.Rules.{text_of}
use Rattle.rbbi_builtin.specs.Compiling.{HasFaultOver}

-- the bytes of the rule file aren't UTF-8, or their text has a fault, with these property files and what is built in
abbrev pub HasFileFault : List File → Bool → List ℕ → Type 0
HasFileFault files ignored bytes =
    ((at : ℕ) × IsNotUtf8At bytes at) ⊎ (IsUtf8 bytes × (error : CompileErr) × HasFaultOver files ignored (text_of bytes) error)
