-- What goes through rings is work of a part.
use Rattle.std.proofs.Common.{◌≡◌, ◌≢◌, inl, inr, ℕ, ◌<◌, ◌≤◌, List, [], ◌++◌, length, ap, sym, ◌∙◌, subst, arith}
use Rattle.std.specs.List.{AllByRecursion}
use Rattle.std.proofs.Math.ListN.{get_or}
use Rattle.std.proofs.lemmas.Bool.{cases_eq}
use Rattle.std.proofs.lemmas.Grind.{common_steps}
use Rattle.std.proofs.lemmas.List.{append-nil}
use Rattle.mc_signal.specs.declared.Tagged.{Tagged}
use Rattle.mc_box.specs.Boxes.{BoxState, no_box}
use Rattle.mc_merge.specs.LaneLogs.{without_stamps}
use Rattle.mc_merge.specs.Lanes.{leads_from, leads_to}
use Rattle.mc_merge.specs.Account.{PartState, part_box, part_lane}
use Rattle.mc_merge.specs.Passing.{LanePasses}
use Rattle.mc_merge.specs.Steps.{ComingIsWork, GoingIsWork, at_lane}
use Rattle.mc_merge.proofs.Logs.{all_map}
use Rattle.mc_port.specs.declared.stamped.Stamped.{Stamped}

-- ---- lanes

stays : (slack : ℕ) (a b : List Tagged) → b ≡ a → LanePasses slack a [] [] b
stays slack a b same = record { order = same ∙ sym (append-nil a); later = λ j k taking coming at at_taken at_came. absurd (cc) }

comes : (slack : ℕ) (a b : List Tagged) (items : List Stamped) → b ≡ a ++ without_stamps items → LanePasses slack a [] items b
comes slack a b items is = record { order = is; later = λ j k taking coming at at_taken at_came. absurd (cc) }

goes : (slack : ℕ) (a b : List Tagged) (items : List Stamped) → a ≡ without_stamps items ++ b → LanePasses slack a items [] b
goes slack a b items is = record { order = sym is ∙ sym (append-nil a); later = λ j k taking coming at at_taken at_came. absurd (cc) }

pub here : (lane : ℕ) (items : List Stamped) (other : ℕ) → other ≡ lane → at_lane lane items other ≡ items
here lane items other same = grind (arith, common_steps)

elsewhere : (lane : ℕ) (items : List Stamped) (other : ℕ) → other ≢ lane → at_lane lane items other ≡ []
elsewhere lane items other apart = grind (arith, common_steps)

pub all_there : (P : Stamped → Type 0) (lane : ℕ) (items : List Stamped) (other : ℕ) → AllByRecursion P items → AllByRecursion P (at_lane lane items other)
all_there P lane items other all = elim (cases_eq other lane) [
  | inl same ↦ subst (λ (l : List Stamped). AllByRecursion P l) (sym (here lane items other same)) all
  | inr apart ↦ subst (λ (l : List Stamped). AllByRecursion P l) (sym (elsewhere lane items other apart)) tt
]

-- a lane of the other kind is another lane
differ : (f : ℕ → ℕ) (n other lane : ℕ) → f other < n → n ≤ f lane → other ≢ lane
differ f n other lane one two same =
    let is : f other ≡ f lane = ap f same in
    absurd (omega arith)

same_box : (a b : PartState) (who : ℕ) → b.boxes ≡ a.boxes → part_box a who ≡ part_box b who
same_box a b who same = sym (ap (λ (l : List BoxState). get_or l who no_box) same)

-- ---- both ways

pub coming_is_work : ComingIsWork
coming_is_work tables a b lane items come =
    let stamp : b.stamp ≡ a.stamp = come.stamp in
    let least : a.stamp ≤ b.stamp = omega arith in
    record {
      box_count = ap (λ (l : List BoxState). length l) come.boxes;
      lane_count = come.lane_count;
      made = λ who. same_box a b who come.boxes;
      fits = λ who. tt;
      rising = least;
      hears = tt;
      heard = come.more;
      came = λ other. all_there (λ (item : Stamped). item.stamp ≤ b.heard) lane items other come.heard;
      went = λ other. tt;
      inner = λ other inside from to. stays 0 (part_lane a other) (part_lane b other) (come.others other (differ (leads_from tables) (length a.boxes) other lane from come.off));
      ins = λ other inside from to. elim (cases_eq other lane) [
        | inl same ↦
            subst (λ (l : List Stamped). LanePasses 0 (part_lane a other) [] l (part_lane b other)) (sym (here lane items other same))
            (subst (λ (l : ℕ). LanePasses 0 (part_lane a l) [] items (part_lane b l)) (sym same) (comes 0 (part_lane a lane) (part_lane b lane) items come.lane_is))
        | inr apart ↦
            subst (λ (l : List Stamped). LanePasses 0 (part_lane a other) [] l (part_lane b other)) (sym (elsewhere lane items other apart))
            (stays 0 (part_lane a other) (part_lane b other) (come.others other apart))
      ];
      outs = λ other inside from to. stays 1 (part_lane a other) (part_lane b other) (come.others other (differ (leads_from tables) (length a.boxes) other lane from come.off));
    }

no_less : (a : ℕ) (item : Stamped) → item.stamp ≡ a → a ≤ item.stamp
no_less a item same = omega arith

pub going_is_work : GoingIsWork
going_is_work tables a b lane items go =
    let stamp : b.stamp ≡ a.stamp = go.stamp in
    let least : a.stamp ≤ b.stamp = omega arith in
    let heard : b.heard ≡ a.heard = go.heard in
    let no_less_heard : a.heard ≤ b.heard = omega arith in
    record {
      box_count = ap (λ (l : List BoxState). length l) go.boxes;
      lane_count = go.lane_count;
      made = λ who. same_box a b who go.boxes;
      fits = λ who. tt;
      rising = least;
      hears = tt;
      heard = no_less_heard;
      came = λ other. tt;
      went = λ other. all_there (λ (item : Stamped). a.stamp ≤ item.stamp) lane items other (all_map (λ (item : Stamped). item.stamp ≡ a.stamp) (λ (item : Stamped). a.stamp ≤ item.stamp) items (λ item same. no_less a.stamp item same) go.stamped);
      inner = λ other inside from to. stays 0 (part_lane a other) (part_lane b other) (go.others other (differ (leads_to tables) (length a.boxes) other lane to go.away));
      ins = λ other inside from to. stays 0 (part_lane a other) (part_lane b other) (go.others other (differ (leads_to tables) (length a.boxes) other lane to go.away));
      outs = λ other inside from to. elim (cases_eq other lane) [
        | inl same ↦
            subst (λ (l : List Stamped). LanePasses 1 (part_lane a other) l [] (part_lane b other)) (sym (here lane items other same))
            (subst (λ (l : ℕ). LanePasses 1 (part_lane a l) items [] (part_lane b l)) (sym same) (goes 1 (part_lane a lane) (part_lane b lane) items go.lane_is))
        | inr apart ↦
            subst (λ (l : List Stamped). LanePasses 1 (part_lane a other) l [] (part_lane b other)) (sym (elsewhere lane items other apart))
            (stays 1 (part_lane a other) (part_lane b other) (go.others other apart))
      ];
    }
