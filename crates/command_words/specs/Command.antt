-- The command, as clap reads it.
use Rattle.std.specs.Prelude.{true, [], Some, codes}
use Rattle.clap.specs.Walk.{Rule, Text}
use Rattle.clap.specs.Simple.{App, new_rule, new_shape, with_rule}
use Rattle.clap.specs.declared.builder.action.ArgAction.TheVariants.{Append, SetTrue}
use Rattle.command_words.specs.Parts.{plain, dead, runs, site, prune, flag_name, pairs, nodes, entries, list, gen, key_name}

abbrev pub flag_rule : Text → Rule
flag_rule name = record (new_rule name) { long = Some name; action = Some SetTrue }

abbrev pub option_rule : Text → Rule
option_rule name = record (new_rule name) { long = Some name }

abbrev pub names_rule : Rule
names_rule = record (new_rule (codes "names")) { action = Some Append }

abbrev pub bare_app : App
bare_app = record { top = record (new_shape (codes "treeped")) { no_binary_name = true; disable_help_flag = true }; subs = [] }

-- options without a value, and those with one
abbrev pub flags_app : App
flags_app =
    with_rule (with_rule (with_rule (with_rule (with_rule bare_app (flag_rule (flag_name plain))) (flag_rule (flag_name dead))) (flag_rule (flag_name runs))) (flag_rule (flag_name site))) (flag_rule (flag_name prune))

abbrev pub options_app : App
options_app =
    with_rule (with_rule (with_rule (with_rule (with_rule flags_app (option_rule (key_name pairs))) (option_rule (key_name nodes))) (option_rule (key_name entries))) (option_rule (key_name list))) (option_rule (key_name gen))

abbrev pub app : App
app = with_rule options_app names_rule
