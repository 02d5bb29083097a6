-- The fields of signals are read from the bytes in which they were written.
use Rattle.std.proofs.Common.{◌≡◌, ℕ, ◌<◌, ◌^◌, List, ◌∷◌, Option, ap, ◌∙◌}
use Rattle.mc_box.specs.declared.event.Event.{Event}
use Rattle.mc_signal.specs.declared.codec_list.CodecList.{CodecList}
use Rattle.mc_signal.specs.declared.Descriptor.{Descriptor}
use Rattle.mc_signal.specs.declared.Selector.{Selector}
use Rattle.mc_signal.specs.declared.Signal.{Signal}
use Rattle.mc_shard.specs.declared.entry.AtEnd.{AtEnd}
use Rattle.mc_entry.specs.Codes.{event_code, event_of}
use Rattle.mc_entry.specs.Reading.{Reads}
use Rattle.mc_entry.specs.Wire.{FitsAt, FitsDescriptor, FitsSelector, FitsSignal, at_wire, codec_wire, codecs_wire, descriptor_wire, event_wire, selector_wire, signal_wire, word2, word4, word8, zeros}
use Rattle.mc_entry.proofs.OneForm.{event_again}

abbrev pub ReadsByte : List ℕ → List ℕ → ℕ → Type 0
ReadsByte old new found = (n : ℕ) (more : List ℕ) → old ≡ n ∷ more → (found ≡ n) × (new ≡ more)

abbrev pub ReadsWord2 : List ℕ → List ℕ → ℕ → Type 0
ReadsWord2 old new found = (n : ℕ) (more : List ℕ) → n < 2 ^ 16 → old ≡ word2 n more → (found ≡ n) × (new ≡ more)

abbrev pub ReadsWord4 : List ℕ → List ℕ → ℕ → Type 0
ReadsWord4 old new found = (n : ℕ) (more : List ℕ) → n < 2 ^ 32 → old ≡ word4 n more → (found ≡ n) × (new ≡ more)

abbrev pub ReadsWord8 : List ℕ → List ℕ → ℕ → Type 0
ReadsWord8 old new found = (n : ℕ) (more : List ℕ) → n < 2 ^ 64 → old ≡ word8 n more → (found ≡ n) × (new ≡ more)

abbrev pub ReadsCodecs : List ℕ → List ℕ → CodecList → Type 0
ReadsCodecs old new found = (list : CodecList) (more : List ℕ) → old ≡ codecs_wire list more → (found ≡ list) × (new ≡ more)

abbrev pub ReadsCodec : List ℕ → List ℕ → Option ℕ → Type 0
ReadsCodec old new found = (codec : Option ℕ) (more : List ℕ) → old ≡ codec_wire codec more → (found ≡ codec) × (new ≡ more)

abbrev pub Skips : ℕ → List ℕ → List ℕ → Type 0
Skips count old new = (more : List ℕ) → old ≡ zeros count more → new ≡ more

pub descriptor_read : (d : Descriptor) (more s0 s1 s2 s3 s4 s5 : List ℕ) (origin version addr port : ℕ) (codecs : CodecList)
    → FitsDescriptor d → ReadsWord4 s0 s1 origin → ReadsWord4 s1 s2 version → ReadsWord4 s2 s3 addr → ReadsWord2 s3 s4 port
    → ReadsCodecs s4 s5 codecs → s0 ≡ descriptor_wire d more
    → (record { origin = origin; version = version; addr = addr; port = port; codecs = codecs } ≡ d) × (s5 ≡ more)
descriptor_read d more s0 s1 s2 s3 s4 s5 origin version addr port codecs fits r1 r2 r3 r4 r5 is =
    let one = r1 d.origin _ fits.origin is in
    let two = r2 d.version _ fits.version one.1 in
    let three = r3 d.addr _ fits.addr two.1 in
    let four = r4 d.port _ fits.port three.1 in
    let five = r5 d.codecs more four.1 in (
      ap (λ (n : ℕ). record { origin = n; version = version; addr = addr; port = port; codecs = codecs }) one.0
          ∙ (ap (λ (n : ℕ). record { origin = d.origin; version = n; addr = addr; port = port; codecs = codecs }) two.0
          ∙ (ap (λ (n : ℕ). record { origin = d.origin; version = d.version; addr = n; port = port; codecs = codecs }) three.0
          ∙ (ap (λ (n : ℕ). record { origin = d.origin; version = d.version; addr = d.addr; port = n; codecs = codecs }) four.0
          ∙ ap (λ (c : CodecList). record { origin = d.origin; version = d.version; addr = d.addr; port = d.port; codecs = c }) five.0))),
      five.1,
    )

pub selector_read : (s : Selector) (more s0 s1 s2 s3 s4 s5 s6 : List ℕ) (origin version addr port : ℕ) (codec : Option ℕ)
    → FitsSelector s → ReadsWord4 s0 s1 origin → ReadsWord4 s1 s2 version → ReadsWord4 s2 s3 addr → ReadsWord2 s3 s4 port
    → ReadsCodec s4 s5 codec → Skips 7 s5 s6 → s0 ≡ selector_wire s more
    → (record { origin = origin; version = version; addr = addr; port = port; codec = codec } ≡ s) × (s6 ≡ more)
selector_read s more s0 s1 s2 s3 s4 s5 s6 origin version addr port codec fits r1 r2 r3 r4 r5 skips is =
    let one = r1 s.origin _ fits.origin is in
    let two = r2 s.version _ fits.version one.1 in
    let three = r3 s.addr _ fits.addr two.1 in
    let four = r4 s.port _ fits.port three.1 in
    let five = r5 s.codec (zeros 7 more) four.1 in (
      ap (λ (n : ℕ). record { origin = n; version = version; addr = addr; port = port; codec = codec }) one.0
          ∙ (ap (λ (n : ℕ). record { origin = s.origin; version = n; addr = addr; port = port; codec = codec }) two.0
          ∙ (ap (λ (n : ℕ). record { origin = s.origin; version = s.version; addr = n; port = port; codec = codec }) three.0
          ∙ (ap (λ (n : ℕ). record { origin = s.origin; version = s.version; addr = s.addr; port = n; codec = codec }) four.0
          ∙ ap (λ (c : Option ℕ). record { origin = s.origin; version = s.version; addr = s.addr; port = s.port; codec = c }) five.0))),
      skips more five.1,
    )

pub event_read : (event : Event) (more s0 s1 s2 s3 : List ℕ) (kind first second : ℕ) (found : Event) → ReadsByte s0 s1 kind
    → ReadsByte s1 s2 first → ReadsByte s2 s3 second → found ≡ event_of (kind, first, second) → s0 ≡ event_wire event more
    → (found ≡ event) × (s3 ≡ more)
event_read event more s0 s1 s2 s3 kind first second found r1 r2 r3 found_is is =
    let one = r1 (event_code event).0 _ is in
    let two = r2 (event_code event).1 _ one.1 in
    let three = r3 (event_code event).2 more two.1 in (
      found_is ∙ (ap (λ (n : ℕ). event_of (n, first, second)) one.0
          ∙ (ap (λ (n : ℕ). event_of ((event_code event).0, n, second)) two.0
          ∙ (ap (λ (n : ℕ). event_of ((event_code event).0, (event_code event).1, n)) three.0 ∙ event_again event))),
      three.1,
    )

pub at_read : (one : AtEnd) (more s0 s1 s2 s3 s4 s5 s6 : List ℕ) (end number stamp digest tunnel : ℕ) (signal : Signal) → FitsAt one
    → ReadsWord4 s0 s1 end → ReadsWord8 s1 s2 number → ReadsWord8 s2 s3 stamp → ReadsWord8 s3 s4 digest → ReadsByte s4 s5 tunnel
    → Reads FitsSignal signal_wire s5 s6 signal → s0 ≡ at_wire one more
    → (record { end = end; item = record { number = number; stamp = stamp; digest = digest; tunnel = tunnel; signal = signal } } ≡ one) × (s6 ≡ more)
at_read one more s0 s1 s2 s3 s4 s5 s6 end number stamp digest tunnel signal fits r1 r2 r3 r4 r5 r6 is =
    let first = r1 one.end _ fits.end is in
    let second = r2 one.item.number _ fits.number first.1 in
    let third = r3 one.item.stamp _ fits.stamp second.1 in
    let fourth = r4 one.item.digest _ fits.digest third.1 in
    let fifth = r5 one.item.tunnel _ fourth.1 in
    let sixth = r6 one.item.signal more fits.signal fifth.1 in
    let made : ℕ → ℕ → ℕ → ℕ → ℕ → Signal → AtEnd = λ e n s d t g. record { end = e; item = record { number = n; stamp = s; digest = d; tunnel = t; signal = g } } in (
      ap (λ (e : ℕ). made e number stamp digest tunnel signal) first.0
          ∙ (ap (λ (n : ℕ). made one.end n stamp digest tunnel signal) second.0
          ∙ (ap (λ (s : ℕ). made one.end one.item.number s digest tunnel signal) third.0
          ∙ (ap (λ (d : ℕ). made one.end one.item.number one.item.stamp d tunnel signal) fourth.0
          ∙ (ap (λ (t : ℕ). made one.end one.item.number one.item.stamp one.item.digest t signal) fifth.0
          ∙ ap (λ (g : Signal). made one.end one.item.number one.item.stamp one.item.digest one.item.tunnel g) sixth.0)))),
      sixth.1,
    )
