use native.Mathlib.Omega.{arith}
use Rattle.requests.proofs.DeviceNumbers.{numbers}
use Rattle.scanner.proofs.letters.is_letter.Goals as goal

pub overflow_cast-letter : goal.overflow_cast-letter
overflow_cast-letter c = rw c.letter_of-letter.ensures (omega (arith, (numbers c.args.device).letter_printed))
