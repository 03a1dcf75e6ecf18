-- The contracts of the public functions allow one outcome each.
-- Assumes nothing.
use mathlib.Core.Path.{◌≡◌, refl, sym, ap, ◌∙◌}
use mathlib.Core.Bool.{cond}
use lib.Dec.{eqb}
use Rattle.std.specs.Prelude.{Result, Ok, Err}
use Rattle.table.specs.declared.Fault.{Fault}
use Rattle.table.specs.declared.Fault.TheVariants.{NotBuilt, Format, Host, Off, Meet}
use Rattle.table.proofs.Once.{fault_of}
use mathlib.Core.List.{List, []}
use Prim.Native.Nat.{ℕ}
use Rattle.registers.specs.declared.Regs.{Regs}
use Rattle.registers.specs.Regs.{put_reg}
use Rattle.bank.specs.declared.Bank.{Bank}
use Rattle.acts.specs.declared.Act.{Act}
use Rattle.acts.specs.declared.Blit.{Blit}
use Rattle.acts.specs.declared.Fed.{Fed}
use Rattle.acts.specs.Deed.{bank_of, with_ends, Made, Deed, deed}
use Rattle.acts.specs.Fed.{Feeding, fed}

-- what a function handed out, out of its deed
abbrev act_of : Made → Act
act_of x = record {
  ends = record { line_style = x.bank.regs.line_style; src_xy = x.bank.regs.src_xy; dst_xy = x.bank.regs.dst_xy };
  blit = x.blit;
  tally = x.left.tally;
}

abbrev handed : Deed → Result Act Fault
handed d = cond (eqb d.verdict 0) (Ok (act_of d.makes)) (Err (fault_of d.verdict))

handed-deed : (b : Bank) (k : Blit) (x : Result Act Fault) (m : List ℕ) → handed (deed b k x m) ≡ x
unfolding with_ends put_reg fault_of
handed-deed b k (Ok a) m = refl
handed-deed b k (Err NotBuilt) m = refl
handed-deed b k (Err Format) m = refl
handed-deed b k (Err Host) m = refl
handed-deed b k (Err Off) m = refl
handed-deed b k (Err Meet) m = refl

left-deed : (b : Bank) (k : Blit) (x : Result Act Fault) (m : List ℕ) → (deed b k x m).makes.left.mem ≡ m
left-deed b k (Ok a) m = refl
left-deed b k (Err f) m = refl

pub act-once : (b : Bank) (k : Blit) (d : Deed) (x y : Result Act Fault) (m n : List ℕ) → deed b k x m ≡ d → deed b k y n ≡ d → (x ≡ y) × (m ≡ n)
act-once b k d x y m n p q = (
  sym (handed-deed b k x m) ∙ ap handed (p ∙ sym q) ∙ handed-deed b k y n,
  sym (left-deed b k x m) ∙ ap (λ (d : Deed). d.makes.left.mem) (p ∙ sym q) ∙ left-deed b k y n,
)

-- the same of a run of data
abbrev fed_of : Feeding → Result Fed Fault
fed_of x = cond (eqb x.verdict 0) (Ok (record { blit = x.blit; tally = x.left.tally; used = x.used })) (Err (fault_of x.verdict))

fed-back : (k : Blit) (x : Result Fed Fault) (m : List ℕ) → fed_of (fed k x m) ≡ x
unfolding fault_of
fed-back k (Ok f) m = refl
fed-back k (Err NotBuilt) m = refl
fed-back k (Err Format) m = refl
fed-back k (Err Host) m = refl
fed-back k (Err Off) m = refl
fed-back k (Err Meet) m = refl

left-fed : (k : Blit) (x : Result Fed Fault) (m : List ℕ) → (fed k x m).left.mem ≡ m
left-fed k (Ok f) m = refl
left-fed k (Err e) m = refl

pub feed-once : (k : Blit) (d : Feeding) (x y : Result Fed Fault) (m n : List ℕ) → fed k x m ≡ d → fed k y n ≡ d → (x ≡ y) × (m ≡ n)
feed-once k d x y m n p q = (
  sym (fed-back k x m) ∙ ap fed_of (p ∙ sym q) ∙ fed-back k y n,
  sym (left-fed k x m) ∙ ap (λ (d : Feeding). d.left.mem) (p ∙ sym q) ∙ left-fed k y n,
)

-- registers that are settled together with every pattern
pub regs-once : (f : List ℕ → Bank) (x y : Regs) → ((p : List ℕ) → bank_of x p ≡ f p) → ((p : List ℕ) → bank_of y p ≡ f p) → x ≡ y
regs-once f x y e q = ap (λ (b : Bank). b.regs) (e [] ∙ sym (q []))
