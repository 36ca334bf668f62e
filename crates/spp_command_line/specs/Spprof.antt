-- The command line of spprof as `clap` reads it: its commands, and the arguments of each.
use Rattle.std.specs.Prelude.{◌≡◌, pos, true, false, List, [], ◌∷◌, Some, codes}
use Rattle.clap.specs.Walk.{Rule, Text}
use Rattle.clap.specs.declared.builder.command.Command.{Command}
use Rattle.clap.specs.declared.builder.command.Command.TheViews.{out-Command}
use Rattle.clap.specs.Simple.{App, Shape, app_of, new_rule, new_shape}
use Rattle.clap.specs.declared.builder.action.ArgAction.TheVariants.{SetTrue}
use Rattle.clap.specs.declared.builder.value_parser.ValueParser.TheVariants.{Signed}

-- FILE, which may be left out
abbrev pub file_rule : Rule
file_rule = new_rule (codes "FILE")

-- an input that must be named
abbrev pub input_rule : Text → Rule
input_rule name = record (new_rule name) { required = true }

-- --burden N, a number of 32 bits; 15000 where it isn't given
abbrev pub burden_rule : Rule
burden_rule = record (new_rule (codes "burden")) {
  long = Some (codes "burden");
  value_names = 1;
  defaults = codes "15000" ∷ [];
  parser = Some (Signed (pos 0) (pos 4294967295));
}

-- --join-burden N, a number of 32 bits
abbrev pub join_burden_rule : Rule
join_burden_rule = record (new_rule (codes "join-burden")) {
  long = Some (codes "join-burden");
  value_names = 1;
  parser = Some (Signed (pos 0) (pos 4294967295));
}

-- --parts N, 1 to 65536; 16 where it isn't given
abbrev pub parts_rule : Rule
parts_rule = record (new_rule (codes "parts")) {
  long = Some (codes "parts");
  value_names = 1;
  defaults = codes "16" ∷ [];
  parser = Some (Signed (pos 1) (pos 65536));
}

-- --workers N, 1 to 64; 4 where it isn't given
abbrev pub workers_rule : Rule
workers_rule = record (new_rule (codes "workers")) {
  long = Some (codes "workers");
  value_names = 1;
  defaults = codes "4" ∷ [];
  parser = Some (Signed (pos 1) (pos 64));
}

-- --top N, 1 to 65536; 10 where it isn't given
abbrev pub top_rule : Rule
top_rule = record (new_rule (codes "top")) {
  long = Some (codes "top");
  value_names = 1;
  defaults = codes "10" ∷ [];
  parser = Some (Signed (pos 1) (pos 65536));
}

-- --faster N, 2 to 1000; 2 where it isn't given
abbrev pub faster_rule : Rule
faster_rule = record (new_rule (codes "faster")) {
  long = Some (codes "faster");
  value_names = 1;
  defaults = codes "2" ∷ [];
  parser = Some (Signed (pos 2) (pos 1000));
}

-- --site NAME
abbrev pub site_rule : Rule
site_rule = record (new_rule (codes "site")) { long = Some (codes "site"); value_names = 1 }

-- --csv, which takes no value
abbrev pub csv_rule : Rule
csv_rule = record (new_rule (codes "csv")) { long = Some (codes "csv"); action = Some SetTrue }

-- --explain, which takes no value
abbrev pub explain_rule : Rule
explain_rule = record (new_rule (codes "explain")) { long = Some (codes "explain"); action = Some SetTrue }

-- a command over one file, with its options
abbrev pub over_file : Text → List Rule → Shape
over_file name options = record (new_shape name) { rules = file_rule ∷ options }

-- a command over two files that must both be named, with its options
abbrev pub over_both : Text → List Rule → Shape
over_both name options = record (new_shape name) { rules = input_rule (codes "BEFORE") ∷ input_rule (codes "AFTER") ∷ options }

abbrev pub commands : List Shape
commands = over_file (codes "check") (explain_rule ∷ [])
    ∷ over_file (codes "figures") (burden_rule ∷ join_burden_rule ∷ parts_rule ∷ workers_rule ∷ explain_rule ∷ [])
    ∷ over_file (codes "profile") (burden_rule ∷ join_burden_rule ∷ parts_rule ∷ workers_rule ∷ csv_rule ∷ explain_rule ∷ [])
    ∷ over_file (codes "advise") (burden_rule ∷ join_burden_rule ∷ parts_rule ∷ workers_rule ∷ top_rule ∷ faster_rule ∷ site_rule ∷ csv_rule ∷ explain_rule ∷ [])
    ∷ over_both (codes "compare") (burden_rule ∷ join_burden_rule ∷ parts_rule ∷ workers_rule ∷ explain_rule ∷ [])
    ∷ over_file (codes "encode") (explain_rule ∷ [])
    ∷ over_file (codes "migrate") (explain_rule ∷ [])
    ∷ []

-- the command line: --version beside --help, one of the commands is wanted, and no word `help` is one
abbrev pub spprof : App
spprof = record {
  top = record (new_shape (codes "spprof")) {
    is_leaf = false;
    disable_help_subcommand = true;
    has_version = true;
    subcommand_required = true;
  };
  subs = commands;
}

-- a command of this shape, with no command below it and no argument that others share
abbrev pub IsAt : Shape → Command → Type 0
IsAt s c = (app_of c ≡ record { top = s; subs = [] }) × ((out-Command c).has_globals ≡ false)
