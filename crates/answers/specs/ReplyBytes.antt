-- Document 01, 'Lines': the answers "`ok`, or `no` and the number" (order 11: and the field at fault), "`take` id counter register" and "`set` address(4)
-- value(16)", byte by byte. Other statements and the examples quote these words, which `bytes` spells for both sides.
use Rattle.std.specs.Prelude.{◌≡◌, [], ◌∷◌, ℕ, Ok, Err}
use Rattle.requests.specs.declared.Refusal.TheVariants.{NotLeftByPlan}
use Rattle.plans.specs.declared.Place.TheVariants.{Counter, WithRsp, Pair}
use Rattle.answers.specs.Replies.{answer_text, take_lines, set_lines}

pub record ReplyBytes : Type 0 where
  -- ok
  pub accepted : (k : ℕ) → answer_text (Ok tt) k ≡ 111 ∷ 107 ∷ 10 ∷ []
  -- no 15 0
  pub refused : answer_text (Err NotLeftByPlan) 0 ≡ 110 ∷ 111 ∷ 9 ∷ 49 ∷ 53 ∷ 9 ∷ 48 ∷ 10 ∷ []
  -- take 7 3 -
  pub counter : take_lines (record { id = 7; place = Counter 3 }) ≡ 116 ∷ 97 ∷ 107 ∷ 101 ∷ 9 ∷ 55 ∷ 9 ∷ 51 ∷ 9 ∷ 45 ∷ 10 ∷ []
  -- take 7 2 1
  pub offcore : take_lines (record { id = 7; place = WithRsp 2 1 }) ≡ 116 ∷ 97 ∷ 107 ∷ 101 ∷ 9 ∷ 55 ∷ 9 ∷ 50 ∷ 9 ∷ 49 ∷ 10 ∷ []
  -- take 12 2 0, take 12 1 1
  pub latency : take_lines (record { id = 12; place = Pair 2 1 })
      ≡ 116 ∷ 97 ∷ 107 ∷ 101 ∷ 9 ∷ 49 ∷ 50 ∷ 9 ∷ 50 ∷ 9 ∷ 48 ∷ 10 ∷ 116 ∷ 97 ∷ 107 ∷ 101 ∷ 9 ∷ 49 ∷ 50 ∷ 9 ∷ 49 ∷ 9 ∷ 49 ∷ 10 ∷ []
  -- set 01A6 0000004000008FFF
  pub written : set_lines (0x01A6 ∷ 0x0000004000008FFF ∷ [])
      ≡ 115 ∷ 101 ∷ 116 ∷ 9 ∷ 48 ∷ 49 ∷ 65 ∷ 54 ∷ 9 ∷ 48 ∷ 48 ∷ 48 ∷ 48 ∷ 48 ∷ 48 ∷ 52 ∷ 48 ∷ 48 ∷ 48 ∷ 48 ∷ 48 ∷ 56 ∷ 70 ∷ 70 ∷ 70 ∷ 10 ∷ []
