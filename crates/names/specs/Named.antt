-- Document 02, order 9: the request that a name stands for on a device.
use Rattle.std.specs.Prelude.{List, ℕ, ◌-◌, eqb, leb, Option, None, Some}
use Rattle.requests.specs.Choice.{pick}
use Rattle.requests.specs.Devices.{letter_of, packets_on}
use Rattle.requests.specs.declared.CounterSet.{CounterSet}
use Rattle.requests.specs.declared.Device.{Device}
use Rattle.requests.specs.declared.Request.{Request}
use Rattle.requests.specs.declared.Request.TheVariants.{Event, Packet, Offcore}
use Rattle.names.specs.Rows.{row_of}
use Rattle.names.specs.Lists.{NameLists}
use Rattle.names.specs.LookUp.{row_named, shown}
use Rattle.names.specs.declared.Row.{Row}

-- an event that no device lists: it is refused with 8
unfoldable pub unlisted : CounterSet → Request
unlisted a = Event 0xFF 0xFF a

-- a request of a kind that the device does not have: it is refused with 7
unfoldable pub foreign : Device → CounterSet → Request
foreign d a = pick (packets_on d) (Offcore 0 a) (Packet 0 0 a)

-- the request of a row on a device
unfoldable pub request_for : Option Row → Device → CounterSet → Request
request_for (Some r) d a = pick (eqb (letter_of r.device) (letter_of d)) (Event r.code r.mask a) (foreign d a)
request_for None d a = unlisted a

-- the request of a name on a device
unfoldable pub request_named : NameLists → List ℕ → Device → CounterSet → Request
request_named n name d a = request_for (row_of (shown (row_named n name))) d a

-- Order 11: the field of a `named` line (id, name, allowed) for a field of the event that its name stands for: the row's code and mask are at the name
unfoldable pub named_field : ℕ → ℕ
named_field k = pick (leb k 2) k (k - 1)
