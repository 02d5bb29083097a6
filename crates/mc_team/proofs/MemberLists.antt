-- What stands at the two ends of a lane, and what boxes have beside their channel ends, in a list of members.
use Rattle.std.proofs.Common.{◌≡◌, ℕ, List, length, map, slice_get, slice_index_or, Some, sym, ◌∙◌, ap}
use Rattle.std.proofs.lemmas.List.{length-map}
use Rattle.std.proofs.lemmas.Simd.{map-map}
use Rattle.mc_team.specs.declared.layout.LaneEnds.{LaneEnds}
use Rattle.mc_team.specs.declared.member.Member.{Member}
use Rattle.mc_team.proofs.Lists.{at_some}
use Rattle.mc_team.proofs.Pairs.{here_in, here_out}
use Rattle.mc_team.specs.Carries.{MemberRest, rest_of}
use Rattle.mc_team.specs.Ends.{giving_end, taking_end}
use Rattle.mc_worker.specs.Account.{in_at, out_at}

-- ---- what stands where

-- at the channel end that a lane leads to
pub taking_there : (members : List Member) (ends : LaneEnds) (member : Member) → slice_get members ends.to ≡ Some member → taking_end members ends ≡ in_at member.worker ends.to_end
taking_there members ends member at = here_in members ends.to ends.to_end member at

-- and at the one that it leads from
pub giving_there : (members : List Member) (ends : LaneEnds) (member : Member) → slice_get members ends.from ≡ Some member → giving_end members ends ≡ out_at member.worker ends.from_end
giving_there members ends member at = here_out members ends.from ends.from_end member at

-- ---- what boxes have beside their channel ends

-- what is read off it
pub of_rests : {Y : Type 0} (g : MemberRest → Y) (old new : List Member) → map rest_of new ≡ map rest_of old → map (λ (member : Member). g (rest_of member)) new ≡ map (λ (member : Member). g (rest_of member)) old
of_rests g old new same = sym (map-map g rest_of new) ∙ (ap (map g) same ∙ map-map g rest_of old)

-- so there are as many boxes
pub rests_long : (old new : List Member) → map rest_of new ≡ map rest_of old → length new ≡ length old
rests_long old new same = sym (length-map new rest_of) ∙ (ap (λ (l : List MemberRest). length l) same ∙ length-map old rest_of)

-- and each has what it had
pub rest_at : (old new : List Member) (who : ℕ) (a b : Member) → map rest_of new ≡ map rest_of old → slice_get old who ≡ Some a → slice_get new who ≡ Some b → rest_of b ≡ rest_of a
rest_at old new who a b same at_a at_b =
    sym (at_some rest_of new who b (rest_of b) at_b) ∙ (ap (λ (l : List MemberRest). slice_index_or l who (rest_of b)) same ∙ at_some rest_of old who a (rest_of b) at_a)
