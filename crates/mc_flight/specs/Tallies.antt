-- What the two words of the counter have to do with what each seat counted.
use Rattle.std.specs.Prelude.{◌≡◌, ℕ, ◌+◌, ◌-◌, ◌*◌, ◌<◌, ◌≤◌, true, false, List, [], ◌∷◌, if◌then◌else◌}
use Rattle.std.specs.List.{sum_by}
use mathlib.Core.Option.{some}
use lib.ListN.{get_elem?}
use Rattle.atomic_table.specs.Table.{State, Me, Step}
use Rattle.mc_flight.specs.declared.account.Account.{Account}
use Rattle.mc_flight.specs.declared.limit.TheConstants.{SEAT_LIMIT, COUNT_LIMIT}

-- ---- accounts

-- the account of a seat that may count, by its number, its parts, and what it counted as sent and as taken
abbrev pub account : ℕ → ℕ → ℕ → ℕ → Account
account number parts sent taken = record { number = number; parts = parts; spent = false; sent = sent; taken = taken }

-- the account of a seat that another one took in, and which counts no more
abbrev pub spent_account : Account
spent_account = record { number = 0; parts = 0; spent = true; sent = 0; taken = 0 }

abbrev pub parts_of : Account → ℕ
parts_of a = a.parts

abbrev pub sent_of : Account → ℕ
sent_of a = a.sent

abbrev pub taken_of : Account → ℕ
taken_of a = a.taken

-- what an account adds to a sum: nothing where its seat is spent
abbrev pub unspent : (Account → ℕ) → Account → ℕ
unspent f a = if a.spent then 0 else f a

-- the sum over the accounts of all seats that aren't spent
abbrev pub total : (Account → ℕ) → List Account → ℕ
total f accounts = sum_by (unspent f) accounts

-- ---- the rule

-- a seat has a part for as long as it may count, and none after that; neither count is above 2^48 for each part
pub record IsFair (a : Account) : Type 0 where
  pub some_part : a.spent ≡ false → 0 < a.parts
  pub no_part : a.spent ≡ true → a.parts ≡ 0
  pub sent : a.sent ≤ a.parts * COUNT_LIMIT
  pub taken : a.taken ≤ a.parts * COUNT_LIMIT

-- the first word is the sum of what was counted as sent, the second of what was counted as taken, and there are 256
-- parts in all
pub record IsTallied (s : State (Unit {0}) Account) : Type 0 where
  pub words : s.words ≡ total sent_of s.views ∷ total taken_of s.views ∷ []
  pub parts : total parts_of s.views ≡ SEAT_LIMIT
  pub fair : (seat : ℕ) (a : Account) → get_elem? s.views seat ≡ some a → IsFair a

-- ---- what a call of a seat does to its account

abbrev pub sent_more : ℕ → Account → Account
sent_more n a = record a { sent = a.sent + n }

abbrev pub took_more : ℕ → Account → Account
took_more n a = record a { taken = a.taken + n }

-- what the word was raised by, the seat counted as sent
abbrev pub SentMore : Step (Unit {0}) → Me (Unit {0}) Account → ℕ → Me (Unit {0}) Account → Type 0
SentMore step old found new = new ≡ (sent_more step.first old.0, old.1)

-- what the word was raised by, the seat counted as taken
abbrev pub TookMore : Step (Unit {0}) → Me (Unit {0}) Account → ℕ → Me (Unit {0}) Account → Type 0
TookMore step old found new = new ≡ (took_more step.first old.0, old.1)

-- what was found is at least what the seat counted as sent, and exactly that where it has all parts; its account stays
abbrev pub ReadSent : Step (Unit {0}) → Me (Unit {0}) Account → ℕ → Me (Unit {0}) Account → Type 0
ReadSent step old found new = (new ≡ old) × (old.0.sent ≤ found) × (old.0.parts ≡ SEAT_LIMIT → found ≡ old.0.sent)

-- what a seat keeps where the next one is made from it: one part
abbrev pub kept_part : Account → Account
kept_part a = record a { parts = 1 }

-- what the next seat has: the other parts, and the next number
abbrev pub other_parts : Account → Account
other_parts a = account (a.number + 1) (a.parts - 1) 0 0

-- what a seat has that took another one in: what both had
abbrev pub both_accounts : Account → Account → Account
both_accounts a b = account a.number (a.parts + b.parts) (a.sent + b.sent) (a.taken + b.taken)
