-- How many bytes an entry takes at most.
use Rattle.std.proofs.Common.{◌≡◌, ◌≤◌, ℕ, ◌+◌, ◌*◌, List, [], ◌∷◌, length, Option, Some, None, arith}
use Rattle.std.specs.Prelude.{replicate}
use Rattle.std.proofs.lemmas.List.{length-append, length-replicate}
use Rattle.mc_signal.specs.declared.codec_list.CodecList.{CodecList}
use Rattle.mc_signal.specs.declared.Descriptor.{Descriptor}
use Rattle.mc_signal.specs.declared.Selector.{Selector}
use Rattle.mc_signal.specs.declared.Signal.{Signal}
use Rattle.mc_signal.specs.declared.Signal.TheVariants.{Open, Oack, Close, Closeack, Describe, Select}
use Rattle.mc_shard.specs.Journals.{EntryState}
use Rattle.mc_shard.specs.declared.entry.Asked.{Asked}
use Rattle.mc_shard.specs.declared.entry.AtEnd.{AtEnd}
use Rattle.mc_entry.specs.Wire.{all_wire, asked_wire, at_wire, codec_wire, codecs_wire, descriptor_wire, entry_wire, event_wire, selector_wire, signal_wire, taken_wire, word2, word4, word8, zeros}

len2 : (n : ℕ) (more : List ℕ) → length (word2 n more) ≡ 2 + length more
unfolding word2
len2 n more = omega arith

len4 : (n : ℕ) (more : List ℕ) → length (word4 n more) ≡ 4 + length more
unfolding word4
len4 n more = omega arith

len8 : (n : ℕ) (more : List ℕ) → length (word8 n more) ≡ 8 + length more
unfolding word8
len8 n more = omega arith

len_zeros : (count : ℕ) (more : List ℕ) → length (zeros count more) ≡ count + length more
unfolding zeros
len_zeros count more = omega (arith, length-append (replicate count 0) more, length-replicate {A = ℕ} count 0)

len_codecs : (list : CodecList) (more : List ℕ) → length (codecs_wire list more) ≡ 9 + length more
len_codecs list more = omega (arith, length-append list.at more, list.places)

len_codec : (codec : Option ℕ) (more : List ℕ) → length (codec_wire codec more) ≡ 2 + length more
len_codec None more = omega arith
len_codec (Some codec) more = omega arith

-- four numbers, and what follows
len_four : (a b c d : ℕ) (more : List ℕ) → length (word4 a (word4 b (word4 c (word2 d more)))) ≡ 14 + length more
len_four a b c d more =
    omega (arith, len2 d more, len4 c (word2 d more), len4 b (word4 c (word2 d more)), len4 a (word4 b (word4 c (word2 d more))))

len_descriptor : (d : Descriptor) (more : List ℕ) → length (descriptor_wire d more) ≡ 23 + length more
len_descriptor d more = omega (arith, len_codecs d.codecs more, len_four d.origin d.version d.addr d.port (codecs_wire d.codecs more))

len_selector : (s : Selector) (more : List ℕ) → length (selector_wire s more) ≡ 23 + length more
len_selector s more = omega (arith, len_zeros 7 more, len_codec s.codec (zeros 7 more), len_four s.origin s.version s.addr s.port (codec_wire s.codec (zeros 7 more)))

len_signal : (signal : Signal) (more : List ℕ) → length (signal_wire signal more) ≡ 25 + length more
len_signal (Open medium d) more = omega (arith, len_descriptor d more)
len_signal (Oack d) more = omega (arith, len_descriptor d more)
len_signal Close more = omega (arith, len_zeros 23 more)
len_signal Closeack more = omega (arith, len_zeros 23 more)
len_signal (Describe d) more = omega (arith, len_descriptor d more)
len_signal (Select s) more = omega (arith, len_selector s more)

len_at : (one : AtEnd) (more : List ℕ) → length (at_wire one more) ≡ 54 + length more
len_at one more =
    let signal : List ℕ = signal_wire one.item.signal more in
    let tail : List ℕ = one.item.tunnel ∷ signal in
    omega (
      arith,
      len_signal one.item.signal more,
      len8 one.item.digest tail,
      len8 one.item.stamp (word8 one.item.digest tail),
      len8 one.item.number (word8 one.item.stamp (word8 one.item.digest tail)),
      len4 one.end (word8 one.item.number (word8 one.item.stamp (word8 one.item.digest tail))),
    )

len_all : (items : List AtEnd) (more : List ℕ) → length (all_wire items more) ≡ 54 * length items + length more
len_all [] more = omega arith
len_all (one ∷ items) more = omega (arith, len_at one (all_wire items more), len_all items more)

len_taken : (taken : Option AtEnd) (more : List ℕ) → length (taken_wire taken more) ≤ 55 + length more
len_taken None more = omega arith
len_taken (Some one) more = omega (arith, len_at one more)

len_asked : (asked : Option Asked) (more : List ℕ) → length (asked_wire asked more) ≤ 13 + length more
len_asked None more = omega arith
len_asked (Some asked) more = omega (arith, len8 asked.number more, len4 asked.asker (word8 asked.number more))

-- no entry that a shard makes takes more
pub fits_room : (entry : EntryState) → length entry.sent ≤ 128 → length (entry_wire entry []) ≤ 6998
fits_room entry few =
    let sent : List ℕ = all_wire entry.sent [] in
    let counted : List ℕ = word2 (length entry.sent) sent in
    let taken : List ℕ = taken_wire entry.taken counted in
    let asked : List ℕ = asked_wire entry.asked taken in
    let event : List ℕ = event_wire entry.event asked in
    omega (
      arith,
      few,
      len_all entry.sent [],
      len2 (length entry.sent) sent,
      len_taken entry.taken counted,
      len_asked entry.asked taken,
      len8 entry.stamp event,
      len4 entry.who (word8 entry.stamp event),
    )
