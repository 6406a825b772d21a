-- The addresses of the C-Boxes, by computation over the eight of them. Assumes nothing.
use mathlib.Core.Path.{◌≡◌, refl}
use mathlib.Core.Bool.{Bool, true, not}
use mathlib.Core.List.{List, [], ◌∷◌, Memᴰ}
use Prim.Native.Nat.{ℕ, ◌+◌, ◌*◌, ◌/◌, ◌%◌, ◌<◌}
use lib.Dec.{eqb}
use borrow.Author.Tests.{eqb-true, not-true, ne_eqb}
use Rattle.requests.specs.Choice.{both, either, every}
use Rattle.requests.specs.declared.Device.TheVariants.{C}
use Rattle.requests.specs.Bits.{in_list}
use Rattle.requests.specs.Devices.{counter_count}
use Rattle.requests.proofs.Tests.{both_ways, both_parts, every_at}
use Rattle.requests.proofs.BitMembers.{member_in}
use Rattle.layouts.specs.Layout.{tabulate, cbox_globals, cbox_global, layout_of, control_at, counter_at_lem}
use Rattle.layouts.specs.CBoxAddresses.{cbox_registers, CBoxAddresses}

first : cbox_registers 0 ≡ 0x0D00 ∷ 0x0D10 ∷ 0x0D12 ∷ 0x0D14 ∷ 0x0D16 ∷ 0x0D18 ∷ 0x0D1A ∷ 0x0D11 ∷ 0x0D13 ∷ 0x0D15 ∷ 0x0D17 ∷ 0x0D19 ∷ 0x0D1B ∷ []
unfolding cbox_registers counter_count tabulate cbox_globals cbox_global layout_of control_at counter_at_lem
first = refl

last : cbox_registers 7 ≡ 0x0DE0 ∷ 0x0DF0 ∷ 0x0DF2 ∷ 0x0DF4 ∷ 0x0DF6 ∷ 0x0DF8 ∷ 0x0DFA ∷ 0x0DF1 ∷ 0x0DF3 ∷ 0x0DF5 ∷ 0x0DF7 ∷ 0x0DF9 ∷ 0x0DFB ∷ []
unfolding cbox_registers counter_count tabulate cbox_globals cbox_global layout_of control_at counter_at_lem
last = refl

-- the offsets
all_reversed : every 8 (λ b. eqb (layout_of (C b)).global (0x0D00 + 0x20 * (4 * (b % 2) + 2 * (b / 2 % 2) + b / 4))) ≡ true
unfolding every both cbox_globals cbox_global layout_of
all_reversed = refl

reversed : (b : ℕ) → b < 8 → (layout_of (C b)).global ≡ 0x0D00 + 0x20 * (4 * (b % 2) + 2 * (b / 2 % 2) + b / 4)
reversed b l = eqb-true _ _ (every_at 8 (λ x. eqb (layout_of (C x)).global (0x0D00 + 0x20 * (4 * (x % 2) + 2 * (x / 2 % 2) + x / 4))) all_reversed b l)

controls : (b k : ℕ) → control_at (C b) k ≡ (layout_of (C b)).global + 0x10 + 2 * k
unfolding layout_of control_at
controls b k = refl

counts : (b k : ℕ) → counter_at_lem (C b) k ≡ (layout_of (C b)).global + 0x11 + 2 * k
unfolding layout_of counter_at_lem
counts b k = refl

-- whether no number of the first list is in the second
unfoldable disjoint : List ℕ → List ℕ → Bool
disjoint [] ys = true
disjoint (x ∷ xs) ys = both (not (in_list ys x)) (disjoint xs ys)

not_both : (xs ys : List ℕ) → disjoint xs ys ≡ true → (a : ℕ) → Memᴰ a xs → ¬ Memᴰ a ys
unfolding disjoint
not_both (x ∷ xs) ys h a (Memᴰ.head e) m = both_ways (member_in ys x (rw (← e) m)) (not-true _ (both_parts _ _ h).0)
not_both (x ∷ xs) ys h a (Memᴰ.tail r) m = not_both xs ys (both_parts _ _ h).1 a r m
not_both [] ys h a x3 m = elim x3 [ ]

all_apart : every 8 (λ b. every 8 (λ c. either (eqb b c) (disjoint (cbox_registers b) (cbox_registers c)))) ≡ true
unfolding every both either disjoint in_list cbox_registers counter_count tabulate cbox_globals cbox_global layout_of control_at counter_at_lem
all_apart = refl

apart : (b c : ℕ) → b < 8 → c < 8 → ¬ (b ≡ c) → (a : ℕ) → Memᴰ a (cbox_registers b) → ¬ Memᴰ a (cbox_registers c)
unfolding either
apart b c l m other =
    let row = every_at 8 (λ x. every 8 (λ y. either (eqb x y) (disjoint (cbox_registers x) (cbox_registers y)))) all_apart b l in
    let here = every_at 8 (λ y. either (eqb b y) (disjoint (cbox_registers b) (cbox_registers y))) row c m in
    not_both (cbox_registers b) (cbox_registers c) (rw (ne_eqb b c other) at here)

pub cbox_addresses : CBoxAddresses
cbox_addresses = record { first = first; last = last; reversed = reversed; controls = controls; counts = counts; apart = apart }
