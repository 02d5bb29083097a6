-- The numbers of a signal say that signal alone.
use Rattle.std.proofs.Common.{◌≡◌, ℕ, true, Option, Some, None, refl, ap, ◌∙◌, arith}
use Rattle.std.specs.Prelude.{nat_le, nat_lt}
use Rattle.std.proofs.lemmas.Bool.{le-leb}
use Rattle.mc_plain.proofs.Listed.{fine_list}
use Rattle.mc_signal.proofs.Equal.{codecs_tell_list}
use Rattle.mc_signal.specs.declared.codec_list.CodecList.{CodecList}
use Rattle.mc_signal.specs.declared.Descriptor.{Descriptor}
use Rattle.mc_signal.specs.declared.Medium.{Medium}
use Rattle.mc_signal.specs.declared.Medium.TheVariants.{Audio, Video}
use Rattle.mc_signal.specs.declared.Selector.{Selector}
use Rattle.mc_signal.specs.declared.Signal.{Signal}
use Rattle.mc_signal.specs.declared.Signal.TheVariants.{Open, Oack, Close, Closeack, Describe, Select}
use Rattle.mc_plain.specs.Numbers.{Says, SaysDescriptor, SaysSelector, is_list, is_signal, medium_number, medium_of, named, plain_codec, plain_descriptor, plain_list, plain_of, plain_selector}
use Rattle.std.specs.List.{slice_get}
use Rattle.mc_shard_c.specs.Asking.{IsToldAgain, ToldAgain}

medium_told : (m : Medium) → medium_of (medium_number m) ≡ m
medium_told Audio = refl
medium_told Video = refl

codec_told : (codec : Option ℕ) → slice_get (named (plain_codec codec)) 0 ≡ codec
codec_told None = refl
codec_told (Some codec) = refl

descriptor_told : (kind medium : ℕ) (d e : Descriptor) → SaysDescriptor (plain_descriptor kind medium d) e → e ≡ d
descriptor_told kind medium d e (origin, version, addr, port, codecs) =
    let same : e.codecs ≡ d.codecs = codecs_tell_list e.codecs d.codecs codecs in
    let fields : (e.origin, e.version, e.addr, e.port, e.codecs) ≡ (d.origin, d.version, d.addr, d.port, d.codecs) = cc in
    ap (λ (t : ℕ × ℕ × ℕ × ℕ × CodecList). record { origin = t.0; version = t.1; addr = t.2; port = t.3; codecs = t.4 }) fields

selector_told : (s t : Selector) → SaysSelector (plain_selector s) t → t ≡ s
selector_told s t (origin, version, addr, port, codec) =
    let same : t.codec ≡ s.codec = codec ∙ codec_told s.codec in
    let fields : (t.origin, t.version, t.addr, t.port, t.codec) ≡ (s.origin, s.version, s.addr, s.port, s.codec) = cc in
    ap (λ (u : ℕ × ℕ × ℕ × ℕ × Option ℕ). record { origin = u.0; version = u.1; addr = u.2; port = u.3; codec = u.4 }) fields

signal_told : (given taken : Signal) → Says (plain_of given) taken → taken ≡ given
signal_told (Open m d) (Open n e) (kind, medium, says) =
    let one = medium ∙ medium_told m in
    let other = descriptor_told 0 (medium_number m) d e says in cc
signal_told (Open m d) (Oack e) says = absurd (omega (arith, says.0))
signal_told (Open m d) Close says = absurd (omega (arith, says))
signal_told (Open m d) Closeack says = absurd (omega (arith, says))
signal_told (Open m d) (Describe e) says = absurd (omega (arith, says.0))
signal_told (Open m d) (Select t) says = absurd (omega (arith, says.0))
signal_told (Oack d) (Open n e) says = absurd (omega (arith, says.0))
signal_told (Oack d) (Oack e) says = ap (λ (x : Descriptor). Oack x) (descriptor_told 1 0 d e says.1)
signal_told (Oack d) Close says = absurd (omega (arith, says))
signal_told (Oack d) Closeack says = absurd (omega (arith, says))
signal_told (Oack d) (Describe e) says = absurd (omega (arith, says.0))
signal_told (Oack d) (Select t) says = absurd (omega (arith, says.0))
signal_told Close (Open n e) says = absurd (omega (arith, says.0))
signal_told Close (Oack e) says = absurd (omega (arith, says.0))
signal_told Close Close says = refl
signal_told Close Closeack says = absurd (omega (arith, says))
signal_told Close (Describe e) says = absurd (omega (arith, says.0))
signal_told Close (Select t) says = absurd (omega (arith, says.0))
signal_told Closeack (Open n e) says = absurd (omega (arith, says.0))
signal_told Closeack (Oack e) says = absurd (omega (arith, says.0))
signal_told Closeack Close says = absurd (omega (arith, says))
signal_told Closeack Closeack says = refl
signal_told Closeack (Describe e) says = absurd (omega (arith, says.0))
signal_told Closeack (Select t) says = absurd (omega (arith, says.0))
signal_told (Describe d) (Open n e) says = absurd (omega (arith, says.0))
signal_told (Describe d) (Oack e) says = absurd (omega (arith, says.0))
signal_told (Describe d) Close says = absurd (omega (arith, says))
signal_told (Describe d) Closeack says = absurd (omega (arith, says))
signal_told (Describe d) (Describe e) says = ap (λ (x : Descriptor). Describe x) (descriptor_told 4 0 d e says.1)
signal_told (Describe d) (Select t) says = absurd (omega (arith, says.0))
signal_told (Select s) (Open n e) says = absurd (omega (arith, says.0))
signal_told (Select s) (Oack e) says = absurd (omega (arith, says.0))
signal_told (Select s) Close says = absurd (omega (arith, says))
signal_told (Select s) Closeack says = absurd (omega (arith, says))
signal_told (Select s) (Describe e) says = absurd (omega (arith, says.0))
signal_told (Select s) (Select t) says = ap (λ (x : Selector). Select x) (selector_told s t says.1)

pub told_again : ToldAgain
told_again given taken says =
    let signal : taken.item.signal ≡ given.item.signal = signal_told given.item.signal taken.item.signal says.signal in
    let end = says.end in let number = says.number in let stamp = says.stamp in let digest = says.digest in let tunnel = says.tunnel in
    let fields : (taken.end, taken.item.number, taken.item.stamp, taken.item.digest, taken.item.tunnel, taken.item.signal)
    ≡ (given.end, given.item.number, given.item.stamp, given.item.digest, given.item.tunnel, given.item.signal) = cc in
    ap (λ (t : ℕ × ℕ × ℕ × ℕ × ℕ × Signal). record { end = t.0; item = record { number = t.1; stamp = t.2; digest = t.3; tunnel = t.4; signal = t.5 } }) fields

-- ---- and they say a signal

listed_again : (list : CodecList) → is_list (plain_list list) ≡ true
listed_again list = rw (le-leb list.len 8 list.short) (fine_list list.len list.at list.short list.places list.known list.distinct)

medium_again : (m : Medium) → nat_lt (medium_number m) 2 ≡ true
medium_again Audio = refl
medium_again Video = refl

signal_again : (signal : Signal) → is_signal (plain_of signal) ≡ true
signal_again (Open m d) = rw (medium_again m) (listed_again d.codecs)
signal_again (Oack d) = listed_again d.codecs
signal_again Close = refl
signal_again Closeack = refl
signal_again (Describe d) = listed_again d.codecs
signal_again (Select s) = codec_again s.codec
  where
    codec_again : (codec : Option ℕ) → nat_le (plain_codec codec).count 1 ≡ true
    codec_again None = refl
    codec_again (Some codec) = refl

pub is_told_again : IsToldAgain
is_told_again given = signal_again given.item.signal
