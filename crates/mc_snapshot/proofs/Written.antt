-- What is known of a shard that was written is all that is asked of one that is read.
use Rattle.std.proofs.Common.{List, [], ◌∷◌, Result, Ok, Err, OnOk}
use Rattle.std.specs.List.{AllByRecursion}
use Rattle.mc_box.specs.BoxSound.{IsSoundBox}
use Rattle.mc_shard.specs.Shards.{IsShaped, LaidShard}
use Rattle.mc_snapshot.specs.Boxes.{FitsBox, IsWritten}
use Rattle.mc_snapshot.specs.Shards.{AreFewPlaces, ArePlacesWritten, FitsPlaces, FitsShard, IsKept, IsShardWritten}

all_weaker : {X : Type 0} (P Q : X → Type 0) → ((x : X) → P x → Q x) → (xs : List X) → AllByRecursion P xs → AllByRecursion Q xs
all_weaker {X} P Q weaker [] all = tt
all_weaker {X} P Q weaker (x ∷ xs) all = (weaker x all.0, all_weaker P Q weaker xs all.1)

pub on_ok_weaker : {X E : Type 0} {P Q : Type 0} (result : Result X E) → (P → Q) → OnOk result P → OnOk result Q
on_ok_weaker {X} {E} {P} {Q} (Ok x) weaker on = weaker on
on_ok_weaker {X} {E} {P} {Q} (Err e) weaker on = on

pub fits_written : (shard : LaidShard) → IsShardWritten shard → FitsShard shard
fits_written shard written = record {
  stamp = written.stamp;
  boxes = (written.boxes.0, all_weaker IsWritten FitsBox (λ box one. one.fits) shard.state.boxes written.boxes.1);
  places = (written.places.0, all_weaker ArePlacesWritten FitsPlaces (λ places one. one.fits) shard.places written.places.1);
  owners = written.owners;
  sent = written.sent;
  taken = written.taken;
  asked = written.asked;
}

pub kept_written : (shard : LaidShard) → IsShaped shard → IsShardWritten shard → IsKept shard
kept_written shard shaped written = record {
  shaped = shaped;
  boxes = all_weaker IsWritten IsSoundBox (λ box one. one.sound) shard.state.boxes written.boxes.1;
  places = all_weaker ArePlacesWritten AreFewPlaces (λ places one. one.few) shard.places written.places.1;
}
