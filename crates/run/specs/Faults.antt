-- The number and the layer of each fault.
use Rattle.std.specs.Prelude.{ℕ}
use Rattle.statement.specs.Views.{fault_number}
use Rattle.statement.specs.declared.types.Fault.TheVariants as unread
use Rattle.run.specs.declared.types.Fault.{Fault}
use Rattle.run.specs.declared.types.Fault.TheVariants as fault
use Rattle.run.specs.declared.types.Layer.{Layer}
use Rattle.run.specs.declared.types.Layer.TheVariants as layer

abbrev pub number_of : Fault → ℕ
number_of (fault.Read f) = fault_number f
number_of fault.NoRoom = 8
number_of fault.OffField = 9
number_of fault.MarksFull = 10
number_of fault.NotCallable = 11
number_of fault.AlreadyOpen = 12
number_of fault.TooDeep = 13
number_of fault.TooMany = 14
number_of fault.Unfinished = 16
number_of fault.SheetFull = 17

abbrev pub layer_of : Fault → Layer
layer_of (fault.Read unread.UnknownCode) = layer.Bytes
layer_of (fault.Read unread.Misplaced) = layer.Statement
layer_of (fault.Read unread.ShortCount) = layer.Bytes
layer_of (fault.Read unread.TooLong) = layer.Bytes
layer_of (fault.Read unread.WrongCharacter) = layer.Statement
layer_of (fault.Read unread.WrongCoordinate) = layer.Statement
layer_of (fault.Read unread.WrongLayout) = layer.Statement
layer_of (fault.Read unread.StreamTooLong) = layer.Bytes
layer_of fault.NoRoom = layer.Statement
layer_of fault.OffField = layer.Performance
layer_of fault.MarksFull = layer.Performance
layer_of fault.NotCallable = layer.Performance
layer_of fault.AlreadyOpen = layer.Performance
layer_of fault.TooDeep = layer.Performance
layer_of fault.TooMany = layer.Performance
layer_of fault.Unfinished = layer.Bytes
layer_of fault.SheetFull = layer.Sheet
