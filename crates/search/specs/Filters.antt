-- The filter registers while requests are placed: which row's words each of them holds.
use Rattle.std.specs.Prelude.{List, ℕ, zero, suc, ◌+◌, ◌*◌, ◌%◌, leb, get_or, Option, None, Some}
use Rattle.requests.specs.declared.Request.{Request}
use Rattle.requests.specs.declared.Request.TheVariants.{Event, Packet, Offcore, Latency}
use Rattle.requests.specs.Choice.{pick}
use Rattle.requests.specs.Bits.{latency_word}
use Rattle.plans.specs.declared.Room.{Room}
use Rattle.search.specs.declared.left.Left.{Left}
use Rattle.search.specs.Rows.{request_at}

-- the word that the offcore or latency request in row k asks of RSP register i
unfoldable pub word_at : List ℕ → ℕ → ℕ → ℕ
word_at rows i k = pick (leb (get_or rows (k * 4) 0) 2) (get_or rows (k * 4 + 1) 0) (latency_word i (get_or rows (k * 4 + 1) 0 % 65536))

-- the match and the mask that a request asks for
abbrev pub asked_packet : Request → Option (ℕ × ℕ)
asked_packet (Event c m a) = None
asked_packet (Packet x y a) = Some (x, y)
asked_packet (Offcore w a) = None
asked_packet (Latency t a b) = None

-- RSP register i: unused for 0, and for k + 1 holding the word of row k
abbrev pub rsp_of : List ℕ → ℕ → ℕ → Option ℕ
rsp_of rows i zero = None
rsp_of rows i (suc k) = Some (word_at rows i k)

-- the match/mask register in the same way
abbrev pub filter_of : List ℕ → ℕ → Option (ℕ × ℕ)
filter_of rows zero = None
filter_of rows (suc k) = asked_packet (request_at rows k)

-- the room of what is left
abbrev pub room_of : List ℕ → Left → Room
room_of rows left = record { free = left.free; rsp0 = rsp_of rows 0 left.rsp0; rsp1 = rsp_of rows 1 left.rsp1; packet = filter_of rows left.packet }
