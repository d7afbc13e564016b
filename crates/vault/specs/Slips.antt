-- The numbers on a slip.
use Rattle.history.specs.Events as events
use Rattle.vault.specs.declared.slips.Slip.{Slip}

abbrev pub slip_of : {S : Type 0} → Slip S → events.Slip
slip_of s = record { vault = s.vault; serial = s.serial }
