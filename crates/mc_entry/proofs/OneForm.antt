-- Each entry has one form, and no form begins another.
use Rattle.std.proofs.Common.{◌≡◌, ◌≢◌, ℕ, ◌<◌, ◌^◌, Bool, true, false, List, [], ◌∷◌, ◌++◌, length, replicate, Option, Some, None, refl, ap, sym, ◌∙◌, arith}
use Rattle.std.specs.List.{AllByRecursion}
use Rattle.std.specs.Int.{from_le_bytes, to_le_bytes, w16, w32, w64}
use Rattle.std.proofs.lemmas.List.{append_cancel_left}
use Rattle.std.proofs.lemmas.Nat.{from_le_bytes-to_le_bytes_2, from_le_bytes-to_le_bytes_4, from_le_bytes-to_le_bytes_8}
use Rattle.mc_box.specs.declared.event.Change.TheVariants.{End as NewEnd, Link as NewLink}
use Rattle.mc_box.specs.declared.event.Event.{Event}
use Rattle.mc_box.specs.declared.event.Event.TheVariants.{Take, Set, Media, Tell, Retry, Shift}
use Rattle.mc_box.specs.declared.event.MediaChange.TheVariants.{Hear, Talk}
use Rattle.mc_signal.specs.declared.codec_list.CodecList.{CodecList}
use Rattle.mc_signal.specs.declared.Descriptor.{Descriptor}
use Rattle.mc_signal.specs.declared.Medium.{Medium}
use Rattle.mc_signal.specs.declared.Medium.TheVariants.{Audio, Video}
use Rattle.mc_signal.specs.declared.Selector.{Selector}
use Rattle.mc_signal.specs.declared.Signal.{Signal}
use Rattle.mc_signal.specs.declared.Signal.TheVariants.{Open, Oack, Close, Closeack, Describe, Select}
use Rattle.mc_signal.proofs.Equal.{codec_list_same}
use Rattle.mc_slot.specs.declared.Goal.{Goal}
use Rattle.mc_slot.specs.declared.Goal.TheVariants.{Open as ToOpen, Close as ToClose, Hold as ToHold}
use Rattle.mc_entry.specs.Wire.{FitsAt, FitsDescriptor, FitsSelector, FitsRequest, FitsSignal, FitsTaken, OneForm, all_wire, asked_wire, at_wire, body_wire, codec_wire, codecs_wire, descriptor_wire, event_wire, selector_wire, signal_wire, taken_wire, word2, word4, word8, zeros}
use Rattle.mc_entry.specs.Codes.{bit_code, bit_of, event_code, event_of, goal_code, goal_of}
use Rattle.mc_shard.specs.declared.entry.Asked.{Asked}
use Rattle.mc_shard.specs.declared.entry.AtEnd.{AtEnd}

-- ---- lists

pub heads : (a b : ℕ) (x y : List ℕ) → a ∷ x ≡ b ∷ y → a ≡ b
heads a b x y is = cc

pub tails : (a b : ℕ) (x y : List ℕ) → a ∷ x ≡ b ∷ y → x ≡ y
tails a b x y is = cc

differ : (a b : ℕ) (x y : List ℕ) → a ≢ b → a ∷ x ≡ b ∷ y → ⊥
differ a b x y apart is = apart (heads a b x y is)

pub split_same : (a b x y : List ℕ) → length a ≡ length b → a ++ x ≡ b ++ y → (a ≡ b) × (x ≡ y)
split_same [] [] x y long is = (refl, is)
split_same [] (d ∷ b) x y long is = absurd (omega arith)
split_same (c ∷ a) [] x y long is = absurd (omega arith)
split_same (c ∷ a) (d ∷ b) x y long is =
    let longs : length a ≡ length b = omega arith in
    let rest = split_same a b x y longs (tails c d (a ++ x) (b ++ y) is) in
    let first : c ≡ d = heads c d (a ++ x) (b ++ y) is in
    (ap (λ (e : ℕ). e ∷ a) first ∙ ap (λ (l : List ℕ). d ∷ l) rest.0, rest.1)

-- ---- numbers

pub word2_one : (a b : ℕ) (x y : List ℕ) → a < 2 ^ 16 → b < 2 ^ 16 → word2 a x ≡ word2 b y → (a ≡ b) × (x ≡ y)
unfolding word2
word2_one a b x y fits fits_2 is =
    let both = split_same (to_le_bytes w16 a) (to_le_bytes w16 b) x y refl is in
    (sym (from_le_bytes-to_le_bytes_2 a fits) ∙ (ap (λ (l : List ℕ). from_le_bytes w16 l) both.0 ∙ from_le_bytes-to_le_bytes_2 b fits_2), both.1)

pub word4_one : (a b : ℕ) (x y : List ℕ) → a < 2 ^ 32 → b < 2 ^ 32 → word4 a x ≡ word4 b y → (a ≡ b) × (x ≡ y)
unfolding word4
word4_one a b x y fits fits_2 is =
    let both = split_same (to_le_bytes w32 a) (to_le_bytes w32 b) x y refl is in
    (sym (from_le_bytes-to_le_bytes_4 a fits) ∙ (ap (λ (l : List ℕ). from_le_bytes w32 l) both.0 ∙ from_le_bytes-to_le_bytes_4 b fits_2), both.1)

pub word8_one : (a b : ℕ) (x y : List ℕ) → a < 2 ^ 64 → b < 2 ^ 64 → word8 a x ≡ word8 b y → (a ≡ b) × (x ≡ y)
unfolding word8
word8_one a b x y fits fits_2 is =
    let both = split_same (to_le_bytes w64 a) (to_le_bytes w64 b) x y refl is in
    (sym (from_le_bytes-to_le_bytes_8 a fits) ∙ (ap (λ (l : List ℕ). from_le_bytes w64 l) both.0 ∙ from_le_bytes-to_le_bytes_8 b fits_2), both.1)

pub zeros_one : (count : ℕ) (x y : List ℕ) → zeros count x ≡ zeros count y → x ≡ y
unfolding zeros
zeros_one count x y is = append_cancel_left (replicate count 0) x y is

-- ---- signals

codecs_one : (a b : CodecList) (x y : List ℕ) → length a.at ≡ 8 → length b.at ≡ 8 → codecs_wire a x ≡ codecs_wire b y → (a ≡ b) × (x ≡ y)
codecs_one a b x y long long_2 is =
    let both = split_same a.at b.at x y (long ∙ sym long_2) (tails a.len b.len (a.at ++ x) (b.at ++ y) is) in
    (codec_list_same a b (heads a.len b.len (a.at ++ x) (b.at ++ y) is) both.0, both.1)

descriptor_one : (a b : Descriptor) (x y : List ℕ) → FitsDescriptor a → FitsDescriptor b → descriptor_wire a x ≡ descriptor_wire b y → (a ≡ b) × (x ≡ y)
descriptor_one a b x y fits fits_2 is =
    let one = word4_one a.origin b.origin _ _ fits.origin fits_2.origin is in
    let two = word4_one a.version b.version _ _ fits.version fits_2.version one.1 in
    let three = word4_one a.addr b.addr _ _ fits.addr fits_2.addr two.1 in
    let four = word2_one a.port b.port _ _ fits.port fits_2.port three.1 in
    let five = codecs_one a.codecs b.codecs x y fits.codecs fits_2.codecs four.1 in (
      ap (λ (n : ℕ). record { origin = n; version = a.version; addr = a.addr; port = a.port; codecs = a.codecs }) one.0
          ∙ (ap (λ (n : ℕ). record { origin = b.origin; version = n; addr = a.addr; port = a.port; codecs = a.codecs }) two.0
          ∙ (ap (λ (n : ℕ). record { origin = b.origin; version = b.version; addr = n; port = a.port; codecs = a.codecs }) three.0
          ∙ (ap (λ (n : ℕ). record { origin = b.origin; version = b.version; addr = b.addr; port = n; codecs = a.codecs }) four.0
          ∙ ap (λ (c : CodecList). record { origin = b.origin; version = b.version; addr = b.addr; port = b.port; codecs = c }) five.0))),
      five.1,
    )

codec_one : (a b : Option ℕ) (x y : List ℕ) → codec_wire a x ≡ codec_wire b y → (a ≡ b) × (x ≡ y)
codec_one None None x y is = (refl, tails 0 0 x y (tails 0 0 (0 ∷ x) (0 ∷ y) is))
codec_one None (Some d) x y is = absurd (differ 0 1 (0 ∷ x) (d ∷ y) (λ e. omega arith) is)
codec_one (Some c) None x y is = absurd (differ 1 0 (c ∷ x) (0 ∷ y) (λ e. omega arith) is)
codec_one (Some c) (Some d) x y is =
    let rest = tails 1 1 (c ∷ x) (d ∷ y) is in
    (ap (λ (n : ℕ). Some n) (heads c d x y rest), tails c d x y rest)

selector_one : (a b : Selector) (x y : List ℕ) → FitsSelector a → FitsSelector b → selector_wire a x ≡ selector_wire b y → (a ≡ b) × (x ≡ y)
selector_one a b x y fits fits_2 is =
    let one = word4_one a.origin b.origin _ _ fits.origin fits_2.origin is in
    let two = word4_one a.version b.version _ _ fits.version fits_2.version one.1 in
    let three = word4_one a.addr b.addr _ _ fits.addr fits_2.addr two.1 in
    let four = word2_one a.port b.port _ _ fits.port fits_2.port three.1 in
    let five = codec_one a.codec b.codec (zeros 7 x) (zeros 7 y) four.1 in (
      ap (λ (n : ℕ). record { origin = n; version = a.version; addr = a.addr; port = a.port; codec = a.codec }) one.0
          ∙ (ap (λ (n : ℕ). record { origin = b.origin; version = n; addr = a.addr; port = a.port; codec = a.codec }) two.0
          ∙ (ap (λ (n : ℕ). record { origin = b.origin; version = b.version; addr = n; port = a.port; codec = a.codec }) three.0
          ∙ (ap (λ (n : ℕ). record { origin = b.origin; version = b.version; addr = b.addr; port = n; codec = a.codec }) four.0
          ∙ ap (λ (c : Option ℕ). record { origin = b.origin; version = b.version; addr = b.addr; port = b.port; codec = c }) five.0))),
      zeros_one 7 x y five.1,
    )

opened : (m n : Medium) (d e : Descriptor) (more rest : List ℕ) → FitsDescriptor d → FitsDescriptor e → body_wire (Open m d) more ≡ body_wire (Open n e) rest → (Open m d ≡ Open n e) × (more ≡ rest)
opened Audio Audio d e more rest fits fits_2 is =
    let both = descriptor_one d e more rest fits fits_2 (tails 0 0 (descriptor_wire d more) (descriptor_wire e rest) is) in
    (ap (λ (x : Descriptor). Open Audio x) both.0, both.1)
opened Audio Video d e more rest fits fits_2 is = absurd (differ 0 1 (descriptor_wire d more) (descriptor_wire e rest) (λ e. omega arith) is)
opened Video Audio d e more rest fits fits_2 is = absurd (differ 1 0 (descriptor_wire d more) (descriptor_wire e rest) (λ e. omega arith) is)
opened Video Video d e more rest fits fits_2 is =
    let both = descriptor_one d e more rest fits fits_2 (tails 1 1 (descriptor_wire d more) (descriptor_wire e rest) is) in
    (ap (λ (x : Descriptor). Open Video x) both.0, both.1)

signal_one : (a b : Signal) (more rest : List ℕ) → FitsSignal a → FitsSignal b → signal_wire a more ≡ signal_wire b rest → (a ≡ b) × (more ≡ rest)
signal_one (Open m d) (Open n e) more rest fits fits_2 is = opened m n d e more rest fits fits_2 (tails 0 0 (body_wire (Open m d) more) (body_wire (Open n e) rest) is)
signal_one (Open m d) (Oack e) more rest fits fits_2 is = absurd (differ 0 1 _ _ (λ e. omega arith) is)
signal_one (Open m d) Close more rest fits fits_2 is = absurd (differ 0 2 _ _ (λ e. omega arith) is)
signal_one (Open m d) Closeack more rest fits fits_2 is = absurd (differ 0 3 _ _ (λ e. omega arith) is)
signal_one (Open m d) (Describe e) more rest fits fits_2 is = absurd (differ 0 4 _ _ (λ e. omega arith) is)
signal_one (Open m d) (Select e) more rest fits fits_2 is = absurd (differ 0 5 _ _ (λ e. omega arith) is)
signal_one (Oack d) (Open n e) more rest fits fits_2 is = absurd (differ 1 0 _ _ (λ e. omega arith) is)
signal_one (Oack d) (Oack e) more rest fits fits_2 is =
    let both : (d ≡ e) × (more ≡ rest) = descriptor_one d e more rest fits fits_2 (tails 0 0 (descriptor_wire d more) (descriptor_wire e rest) (tails 1 1 (0 ∷ descriptor_wire d more) (0 ∷ descriptor_wire e rest) is)) in
    (ap (λ (x : Descriptor). Oack x) both.0, both.1)
signal_one (Oack d) Close more rest fits fits_2 is = absurd (differ 1 2 _ _ (λ e. omega arith) is)
signal_one (Oack d) Closeack more rest fits fits_2 is = absurd (differ 1 3 _ _ (λ e. omega arith) is)
signal_one (Oack d) (Describe e) more rest fits fits_2 is = absurd (differ 1 4 _ _ (λ e. omega arith) is)
signal_one (Oack d) (Select e) more rest fits fits_2 is = absurd (differ 1 5 _ _ (λ e. omega arith) is)
signal_one Close (Open n e) more rest fits fits_2 is = absurd (differ 2 0 _ _ (λ e. omega arith) is)
signal_one Close (Oack e) more rest fits fits_2 is = absurd (differ 2 1 _ _ (λ e. omega arith) is)
signal_one Close Close more rest fits fits_2 is = (refl, zeros_one 23 more rest (tails 0 0 (zeros 23 more) (zeros 23 rest) (tails 2 2 (0 ∷ zeros 23 more) (0 ∷ zeros 23 rest) is)))
signal_one Close Closeack more rest fits fits_2 is = absurd (differ 2 3 _ _ (λ e. omega arith) is)
signal_one Close (Describe e) more rest fits fits_2 is = absurd (differ 2 4 _ _ (λ e. omega arith) is)
signal_one Close (Select e) more rest fits fits_2 is = absurd (differ 2 5 _ _ (λ e. omega arith) is)
signal_one Closeack (Open n e) more rest fits fits_2 is = absurd (differ 3 0 _ _ (λ e. omega arith) is)
signal_one Closeack (Oack e) more rest fits fits_2 is = absurd (differ 3 1 _ _ (λ e. omega arith) is)
signal_one Closeack Close more rest fits fits_2 is = absurd (differ 3 2 _ _ (λ e. omega arith) is)
signal_one Closeack Closeack more rest fits fits_2 is = (refl, zeros_one 23 more rest (tails 0 0 (zeros 23 more) (zeros 23 rest) (tails 3 3 (0 ∷ zeros 23 more) (0 ∷ zeros 23 rest) is)))
signal_one Closeack (Describe e) more rest fits fits_2 is = absurd (differ 3 4 _ _ (λ e. omega arith) is)
signal_one Closeack (Select e) more rest fits fits_2 is = absurd (differ 3 5 _ _ (λ e. omega arith) is)
signal_one (Describe d) (Open n e) more rest fits fits_2 is = absurd (differ 4 0 _ _ (λ e. omega arith) is)
signal_one (Describe d) (Oack e) more rest fits fits_2 is = absurd (differ 4 1 _ _ (λ e. omega arith) is)
signal_one (Describe d) Close more rest fits fits_2 is = absurd (differ 4 2 _ _ (λ e. omega arith) is)
signal_one (Describe d) Closeack more rest fits fits_2 is = absurd (differ 4 3 _ _ (λ e. omega arith) is)
signal_one (Describe d) (Describe e) more rest fits fits_2 is =
    let both : (d ≡ e) × (more ≡ rest) = descriptor_one d e more rest fits fits_2 (tails 0 0 (descriptor_wire d more) (descriptor_wire e rest) (tails 4 4 (0 ∷ descriptor_wire d more) (0 ∷ descriptor_wire e rest) is)) in
    (ap (λ (x : Descriptor). Describe x) both.0, both.1)
signal_one (Describe d) (Select e) more rest fits fits_2 is = absurd (differ 4 5 _ _ (λ e. omega arith) is)
signal_one (Select d) (Open n e) more rest fits fits_2 is = absurd (differ 5 0 _ _ (λ e. omega arith) is)
signal_one (Select d) (Oack e) more rest fits fits_2 is = absurd (differ 5 1 _ _ (λ e. omega arith) is)
signal_one (Select d) Close more rest fits fits_2 is = absurd (differ 5 2 _ _ (λ e. omega arith) is)
signal_one (Select d) Closeack more rest fits fits_2 is = absurd (differ 5 3 _ _ (λ e. omega arith) is)
signal_one (Select d) (Describe e) more rest fits fits_2 is = absurd (differ 5 4 _ _ (λ e. omega arith) is)
signal_one (Select d) (Select e) more rest fits fits_2 is =
    let both : (d ≡ e) × (more ≡ rest) = selector_one d e more rest fits fits_2 (tails 0 0 (selector_wire d more) (selector_wire e rest) (tails 5 5 (0 ∷ selector_wire d more) (0 ∷ selector_wire e rest) is)) in
    (ap (λ (x : Selector). Select x) both.0, both.1)

-- ---- signals at ends

at_one : (a b : AtEnd) (x y : List ℕ) → FitsAt a → FitsAt b → at_wire a x ≡ at_wire b y → (a ≡ b) × (x ≡ y)
at_one a b x y fits fits_2 is =
    let one = word4_one a.end b.end _ _ fits.end fits_2.end is in
    let two = word8_one a.item.number b.item.number _ _ fits.number fits_2.number one.1 in
    let three = word8_one a.item.stamp b.item.stamp _ _ fits.stamp fits_2.stamp two.1 in
    let four = word8_one a.item.digest b.item.digest _ _ fits.digest fits_2.digest three.1 in
    let tunnel = heads a.item.tunnel b.item.tunnel (signal_wire a.item.signal x) (signal_wire b.item.signal y) four.1 in
    let five = signal_one a.item.signal b.item.signal x y fits.signal fits_2.signal (tails a.item.tunnel b.item.tunnel (signal_wire a.item.signal x) (signal_wire b.item.signal y) four.1) in
    let made : ℕ → ℕ → ℕ → ℕ → ℕ → Signal → AtEnd = λ e n s d t g. record { end = e; item = record { number = n; stamp = s; digest = d; tunnel = t; signal = g } } in (
      ap (λ (e : ℕ). made e a.item.number a.item.stamp a.item.digest a.item.tunnel a.item.signal) one.0
          ∙ (ap (λ (n : ℕ). made b.end n a.item.stamp a.item.digest a.item.tunnel a.item.signal) two.0
          ∙ (ap (λ (s : ℕ). made b.end b.item.number s a.item.digest a.item.tunnel a.item.signal) three.0
          ∙ (ap (λ (d : ℕ). made b.end b.item.number b.item.stamp d a.item.tunnel a.item.signal) four.0
          ∙ (ap (λ (t : ℕ). made b.end b.item.number b.item.stamp b.item.digest t a.item.signal) tunnel
          ∙ ap (λ (g : Signal). made b.end b.item.number b.item.stamp b.item.digest b.item.tunnel g) five.0)))),
      five.1,
    )

all_one : (a b : List AtEnd) (x y : List ℕ) → length a ≡ length b → AllByRecursion FitsAt a → AllByRecursion FitsAt b → all_wire a x ≡ all_wire b y → (a ≡ b) × (x ≡ y)
all_one [] [] x y long fits fits_2 is = (refl, is)
all_one [] (d ∷ b) x y long fits fits_2 is = absurd (omega arith)
all_one (c ∷ a) [] x y long fits fits_2 is = absurd (omega arith)
all_one (c ∷ a) (d ∷ b) x y long fits fits_2 is =
    let longs : length a ≡ length b = omega arith in
    let first = at_one c d (all_wire a x) (all_wire b y) fits.0 fits_2.0 is in
    let rest = all_one a b x y longs fits.1 fits_2.1 first.1 in
    (ap (λ (e : AtEnd). e ∷ a) first.0 ∙ ap (λ (l : List AtEnd). d ∷ l) rest.0, rest.1)

taken_one : (a b : Option AtEnd) (x y : List ℕ) → FitsTaken a → FitsTaken b → taken_wire a x ≡ taken_wire b y → (a ≡ b) × (x ≡ y)
taken_one None None x y fits fits_2 is = (refl, tails 0 0 x y is)
taken_one None (Some d) x y fits fits_2 is = absurd (differ 0 1 x (at_wire d y) (λ e. omega arith) is)
taken_one (Some c) None x y fits fits_2 is = absurd (differ 1 0 (at_wire c x) y (λ e. omega arith) is)
taken_one (Some c) (Some d) x y fits fits_2 is =
    let both = at_one c d x y fits fits_2 (tails 1 1 (at_wire c x) (at_wire d y) is) in
    (ap (λ (e : AtEnd). Some e) both.0, both.1)

-- ---- requests

asked_same : (a b : Asked) → a.asker ≡ b.asker → a.number ≡ b.number → Some a ≡ Some b
asked_same a b one two =
    ap (λ (n : ℕ). Some (record { asker = n; number = a.number })) one ∙ ap (λ (n : ℕ). Some (record { asker = b.asker; number = n })) two

request_one : (a b : Option Asked) (x y : List ℕ) → FitsRequest a → FitsRequest b → asked_wire a x ≡ asked_wire b y → (a ≡ b) × (x ≡ y)
request_one None None x y fits fits_2 is = (refl, tails 0 0 x y is)
request_one None (Some d) x y fits fits_2 is = absurd (differ 0 1 x (word4 d.asker (word8 d.number y)) (λ e. omega arith) is)
request_one (Some c) None x y fits fits_2 is = absurd (differ 1 0 (word4 c.asker (word8 c.number x)) y (λ e. omega arith) is)
request_one (Some c) (Some d) x y fits fits_2 is =
    let one = word4_one c.asker d.asker _ _ fits.0 fits_2.0 (tails 1 1 (word4 c.asker (word8 c.number x)) (word4 d.asker (word8 d.number y)) is) in
    let two = word8_one c.number d.number x y fits.1 fits_2.1 one.1 in
    (asked_same c d one.0 two.0, two.1)

-- ---- events

pub goal_again : (goal : Goal) → goal_of (goal_code goal) ≡ goal
goal_again ToOpen = refl
goal_again ToClose = refl
goal_again ToHold = refl

pub bit_again : (on : Bool) → bit_of (bit_code on) ≡ on
bit_again true = refl
bit_again false = refl

pub event_again : (event : Event) → event_of (event_code event) ≡ event
event_again (Take local) = refl
event_again (Set (NewEnd local goal)) = ap (λ (g : Goal). Set (NewEnd local g)) (goal_again goal)
event_again (Set (NewLink first second)) = refl
event_again (Media (Hear local on)) = ap (λ (b : Bool). Media (Hear local b)) (bit_again on)
event_again (Media (Talk local on)) = ap (λ (b : Bool). Media (Talk local b)) (bit_again on)
event_again (Tell word) = refl
event_again (Retry local) = refl
event_again Shift = refl

event_one : (a b : Event) (x y : List ℕ) → event_wire a x ≡ event_wire b y → (a ≡ b) × (x ≡ y)
event_one a b x y is =
    let c = event_code a in
    let d = event_code b in
    let one = tails c.0 d.0 (c.1 ∷ c.2 ∷ x) (d.1 ∷ d.2 ∷ y) is in
    let two = tails c.1 d.1 (c.2 ∷ x) (d.2 ∷ y) one in
    let codes : event_code a ≡ event_code b =
    ap (λ (n : ℕ). (n, c.1, c.2)) (heads c.0 d.0 (c.1 ∷ c.2 ∷ x) (d.1 ∷ d.2 ∷ y) is)
    ∙ (ap (λ (n : ℕ). (d.0, n, c.2)) (heads c.1 d.1 (c.2 ∷ x) (d.2 ∷ y) one) ∙ ap (λ (n : ℕ). (d.0, d.1, n)) (heads c.2 d.2 x y two)) in
    (sym (event_again a) ∙ (ap event_of codes ∙ event_again b), tails c.2 d.2 x y two)

-- ---- an entry

pub one_form : OneForm
one_form a b more rest fits fits_2 is =
    let start = tails 3 3 _ _ is in
    let one = word4_one a.who b.who _ _ fits.who fits_2.who start in
    let two = word8_one a.stamp b.stamp _ _ fits.stamp fits_2.stamp one.1 in
    let three = event_one a.event b.event _ _ two.1 in
    let asks = request_one a.asked b.asked _ _ fits.asked fits_2.asked three.1 in
    let four = taken_one a.taken b.taken _ _ fits.taken fits_2.taken asks.1 in
    let five = word2_one (length a.sent) (length b.sent) _ _ fits.count fits_2.count four.1 in
    let six = all_one a.sent b.sent more rest five.0 fits.sent fits_2.sent five.1 in (
      ap (λ (n : ℕ). record { who = n; stamp = a.stamp; event = a.event; asked = a.asked; taken = a.taken; sent = a.sent }) one.0
          ∙ (ap (λ (n : ℕ). record { who = b.who; stamp = n; event = a.event; asked = a.asked; taken = a.taken; sent = a.sent }) two.0
          ∙ (ap (λ (e : Event). record { who = b.who; stamp = b.stamp; event = e; asked = a.asked; taken = a.taken; sent = a.sent }) three.0
          ∙ (ap (λ (r : Option Asked). record { who = b.who; stamp = b.stamp; event = b.event; asked = r; taken = a.taken; sent = a.sent }) asks.0
          ∙ (ap (λ (t : Option AtEnd). record { who = b.who; stamp = b.stamp; event = b.event; asked = b.asked; taken = t; sent = a.sent }) four.0
          ∙ ap (λ (l : List AtEnd). record { who = b.who; stamp = b.stamp; event = b.event; asked = b.asked; taken = b.taken; sent = l }) six.0)))),
      six.1,
    )
