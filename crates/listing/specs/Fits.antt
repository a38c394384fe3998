-- What an opened file's numbers are good for: the line is no longer than its room, and query and image stand among the words. Assumes nothing.
use Rattle.std.specs.Prelude.{◌+◌, ◌≤◌}
use Rattle.desk_model.specs.declared.Opened.{Opened}
use Rattle.desk_model.specs.declared.Opened.TheVariants.{NoRoom, Refused, Ready}

unfoldable pub Fits : Opened → Type 0
Fits NoRoom = Unit {0}
Fits (Refused size) = size ≤ 1024
Fits (Ready size count) = (1 + size ≤ count) × (count ≤ 1297)
