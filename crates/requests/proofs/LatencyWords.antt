-- The words of a latency request: its types with one bit more, above them. Assumes nothing.
use native.Mathlib.Omega.{arith}
use Rattle.requests.specs.Bits.{any_response, outstanding, latency_word}
use Rattle.requests.specs.LatencyWords.{LatencyWords}
use Rattle.requests.proofs.Words.{bit_more}

pub latency_words : LatencyWords
unfolding latency_word outstanding any_response
latency_words = record { first = λ t l k. bit_more 38 k t (omega arith); second = λ t l k. bit_more 16 k t l }
