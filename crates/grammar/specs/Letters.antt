-- The letters of devices, as fields.
use Rattle.std.specs.Prelude.{List, [], ◌∷◌, ℕ, Option, None}
use Rattle.requests.specs.declared.Device.{Device}
use Rattle.requests.specs.Devices.{device_of}

-- the device whose letter is the field, as its box 0
unfoldable pub lettered : List ℕ → Option Device
lettered [] = None
lettered (letter ∷ []) = device_of letter 0
lettered (letter ∷ b ∷ more) = None
