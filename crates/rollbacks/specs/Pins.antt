-- What keeps the promise from being read weaker or emptier than it is: streams and what they are answered, computed by the definitions. Names are kept and brought back as document 02,
-- W-209, has it, the promise's conditions are met, and without the one on 50 it fails.
use Rattle.std.specs.Prelude.{ℕ, ◌≡◌, List, [], ◌∷◌, ◌++◌, pos, take}
use Rattle.replies.specs.declared.Reply.{Reply}
use Rattle.replies.specs.declared.Reply.TheVariants as ReplyOf
use Rattle.streams.specs.Stream.{answers}
use Rattle.streams.specs.Promises.{listing}
use Rattle.commands.specs.declared.Performed.{Performed}
use Rattle.rollbacks.specs.Rollbacks.{KeptAndBack, without}
use Rattle.state.specs.Rejections.{rejection_of}

-- what is answered, one command after the other
unfoldable pub replies_of : List Performed → List Reply
replies_of [] = []
replies_of (p ∷ ps) = p.reply ∷ replies_of ps

abbrev pub answered : List ℕ → List Reply
answered s = replies_of (answers s)

-- the listing's group, model 0 with α = 1/2; a reading, a missing one, a forecast; 50 and 51 of a name
abbrev pub opening : List ℕ
opening = take 46 listing

abbrev pub reading : ℕ → List ℕ
reading y = 0x20 ∷ y ∷ 0 ∷ 0 ∷ 0 ∷ []

abbrev pub missing : List ℕ
missing = 0x21 ∷ []

abbrev pub forecast : List ℕ
forecast = 0x30 ∷ 1 ∷ 0 ∷ []

abbrev pub keep : ℕ → List ℕ
keep name = 0x50 ∷ name ∷ []

abbrev pub back : ℕ → List ℕ
back name = 0x51 ∷ name ∷ []

-- a state kept, a reading and a gap, and the state brought back
abbrev pub holiday : List ℕ
holiday = opening ++ (reading 10 ++ (keep 1 ++ (reading 50 ++ (missing ++ (back 1 ++ (forecast ++ reading 6))))))

abbrev pub home : List ℕ
home = opening ++ (reading 10 ++ (keep 1 ++ (forecast ++ reading 6)))

-- with another 50 between
abbrev pub other : List ℕ
other = opening ++ (keep 1 ++ (reading 10 ++ (keep 2 ++ (back 1 ++ (back 2 ++ forecast)))))

pub record Shown : Type 0 where
  -- the conditions are met, and the stream without what stood between is the other one
  pub situation : KeptAndBack holiday 1
  pub shorter : without holiday 1 situation ≡ home
  -- forecast, residual and count are those of before the holiday
  pub gone : answered holiday
      ≡ ReplyOf.Opened 0 0 ∷ ReplyOf.Residual (pos 655360) ∷ ReplyOf.Silent ∷ ReplyOf.Residual (pos 2949120) ∷ ReplyOf.Missing ∷ ReplyOf.Silent ∷ ReplyOf.Forecast 1 (pos 327680) ∷ ReplyOf.Residual (pos 65536) ∷ ReplyOf.Ended 2 ∷ []
  pub stayed : answered home
      ≡ ReplyOf.Opened 0 0 ∷ ReplyOf.Residual (pos 655360) ∷ ReplyOf.Silent ∷ ReplyOf.Forecast 1 (pos 327680) ∷ ReplyOf.Residual (pos 65536) ∷ ReplyOf.Ended 2 ∷ []

pub record Needed : Type 0 where
  -- another 50 between: 51 of its name is answered, and not as if it had never come
  pub kept : answered other
      ≡ ReplyOf.Opened 0 0 ∷ ReplyOf.Silent ∷ ReplyOf.Residual (pos 655360) ∷ ReplyOf.Silent ∷ ReplyOf.Silent ∷ ReplyOf.Silent ∷ ReplyOf.Forecast 1 (pos 327680) ∷ ReplyOf.Ended 1 ∷ []
  pub never : answered (opening ++ (keep 1 ++ (back 2 ++ forecast))) ≡ ReplyOf.Opened 0 0 ∷ ReplyOf.Silent ∷ ReplyOf.Rejected (rejection_of 21) 48 ∷ []

pub record Names : Type 0 where
  -- a new group empties no name
  pub group : answered (opening ++ (reading 10 ++ (keep 3 ++ (opening ++ (back 3 ++ forecast)))))
      ≡ ReplyOf.Opened 0 0 ∷ ReplyOf.Residual (pos 655360) ∷ ReplyOf.Silent ∷ ReplyOf.Opened 0 0 ∷ ReplyOf.Silent ∷ ReplyOf.Forecast 1 (pos 327680) ∷ ReplyOf.Ended 1 ∷ []
  -- a name still holds what was brought back
  pub twice : answered (opening ++ (reading 10 ++ (keep 0 ++ (reading 50 ++ (back 0 ++ (reading 50 ++ (back 0 ++ forecast)))))))
      ≡ ReplyOf.Opened 0 0 ∷ ReplyOf.Residual (pos 655360) ∷ ReplyOf.Silent ∷ ReplyOf.Residual (pos 2949120) ∷ ReplyOf.Silent ∷ ReplyOf.Residual (pos 2949120) ∷ ReplyOf.Silent ∷ ReplyOf.Forecast 1 (pos 327680) ∷ ReplyOf.Ended 1 ∷ []
  -- 21 of a name that holds nothing, and of a byte above 3 by either command; 3 where no state is open; 4 of a command cut short
  pub empty : answered (opening ++ back 2) ≡ ReplyOf.Opened 0 0 ∷ ReplyOf.Rejected (rejection_of 21) 46 ∷ []
  pub above : answered (opening ++ keep 4) ≡ ReplyOf.Opened 0 0 ∷ ReplyOf.Rejected (rejection_of 21) 46 ∷ []
  pub above_back : answered (opening ++ (keep 3 ++ back 4)) ≡ ReplyOf.Opened 0 0 ∷ ReplyOf.Silent ∷ ReplyOf.Rejected (rejection_of 21) 48 ∷ []
  pub unopened : answered (keep 9) ≡ ReplyOf.Rejected (rejection_of 3) 0 ∷ []
  pub unopened_back : answered (back 0) ≡ ReplyOf.Rejected (rejection_of 3) 0 ∷ []
  pub cut : answered (opening ++ take 1 (keep 4)) ≡ ReplyOf.Opened 0 0 ∷ ReplyOf.Rejected (rejection_of 4) 46 ∷ []

pub record Pins : Type 0 where
  pub shown : Shown
  pub needed : Needed
  pub names : Names
