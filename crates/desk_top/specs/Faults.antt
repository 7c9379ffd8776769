-- The faults of a command.
use Rattle.line_reader.specs.declared.fault.LineFault.{LineFault}
use Rattle.line_reader.specs.declared.fault.LineFault.TheVariants as line
use Rattle.desk_top.specs.declared.fault.Fault.{Fault}
use Rattle.desk_top.specs.declared.fault.Fault.TheVariants.{Usage, Refused, NoDevice, TablesRead, InputRead, Write, TooMuch, Journal, Memory}

-- the same fault, of the layer above
abbrev pub fault_of_line : LineFault → Fault
fault_of_line line.Failed = InputRead
fault_of_line line.TooMuch = TooMuch
fault_of_line line.Memory = Memory

-- it may come while lines are answered
abbrev pub IsOfLines : Fault → Type 0
IsOfLines Usage = ⊥
IsOfLines (Refused line) = ⊥
IsOfLines (NoDevice line) = ⊥
IsOfLines TablesRead = ⊥
IsOfLines InputRead = Unit {0}
IsOfLines Write = Unit {0}
IsOfLines TooMuch = Unit {0}
IsOfLines (Journal why) = Unit {0}
IsOfLines Memory = Unit {0}

-- it may come while a text is read
abbrev pub IsOfReading : Fault → Type 0
IsOfReading Usage = ⊥
IsOfReading (Refused line) = ⊥
IsOfReading (NoDevice line) = ⊥
IsOfReading TablesRead = Unit {0}
IsOfReading InputRead = ⊥
IsOfReading Write = ⊥
IsOfReading TooMuch = ⊥
IsOfReading (Journal why) = ⊥
IsOfReading Memory = Unit {0}

-- it may come while the counts are printed
abbrev pub IsOfPrinting : Fault → Type 0
IsOfPrinting Usage = ⊥
IsOfPrinting (Refused line) = ⊥
IsOfPrinting (NoDevice line) = ⊥
IsOfPrinting TablesRead = ⊥
IsOfPrinting InputRead = ⊥
IsOfPrinting Write = Unit {0}
IsOfPrinting TooMuch = ⊥
IsOfPrinting (Journal why) = ⊥
IsOfPrinting Memory = Unit {0}

-- the journal wasn't gone on with
abbrev pub StopsLines : Fault → Type 0
StopsLines Usage = ⊥
StopsLines (Refused line) = ⊥
StopsLines (NoDevice line) = ⊥
StopsLines TablesRead = ⊥
StopsLines InputRead = ⊥
StopsLines Write = ⊥
StopsLines TooMuch = ⊥
StopsLines (Journal why) = Unit {0}
StopsLines Memory = ⊥
