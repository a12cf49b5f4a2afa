-- The command that a value of the code stands for.
use Rattle.xmp_cli.specs.Commands.{Command, Get, Tree, Set, Apply, Patch, Reconcile, Check, Demo, Sync}
use Rattle.xmp_cli.specs.declared.commands.Command.{Command as Parsed}
use Rattle.xmp_cli.specs.declared.commands.Command.TheVariants.{Get as ParsedGet, Tree as ParsedTree, Set as ParsedSet, Apply as ParsedApply, Patch as ParsedPatch, Reconcile as ParsedReconcile, Check as ParsedCheck, Demo as ParsedDemo, Sync as ParsedSync}

abbrev pub meant : Parsed → Command
meant (ParsedGet file path) = Get file.now path.now
meant (ParsedTree file) = Tree file.now
meant (ParsedSet file out path value) = Set file.now out.now path.now value.now
meant (ParsedApply file out script) = Apply file.now out.now script.now
meant (ParsedPatch file script) = Patch file.now script.now
meant (ParsedReconcile file out) = Reconcile file.now out.now
meant (ParsedCheck file) = Check file.now
meant (ParsedDemo number) = Demo number
meant (ParsedSync file out) = Sync file.now out.now
