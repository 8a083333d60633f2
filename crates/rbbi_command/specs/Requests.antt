-- What a request of the code asks for.
use Rattle.std.specs.Prelude.{map}
use Rattle.std.specs.String.{string_bytes}
use Rattle.rbbi_command.specs.declared.words.Request as code
use Rattle.rbbi_command.specs.declared.words.options.Options as settings
use Rattle.rbbi_command.specs.Settings.{Options}
use Rattle.rbbi_command.specs.Words.{Request}

-- the options of the code
abbrev pub options_in : settings.Options → Options
options_in options =
    record {
      files = options.files.items;
      properties = options.properties.items;
      ignored = options.ignored;
      by_table = options.by_table;
      unit = options.unit;
      filter = options.filter;
    }

-- the command, what the options come to, and the bytes of the operands
abbrev pub asked_by : code.Request → Request
asked_by request =
    record { command = request.command; options = options_in request.options; operands = map string_bytes request.operands.now }
