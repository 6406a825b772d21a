use mathlib.Core.Path.{◌≡◌, ap}
use mathlib.Core.List.{List}
use Prim.Native.Nat.{ℕ}
use native.Mathlib.Omega.{arith}
use Rattle.requests.specs.declared.Setup.{Setup}
use Rattle.requests.specs.Devices.{counter_count}
use Rattle.plans.specs.Search.{empty_room, plan_in}
use Rattle.search.specs.Rows.{set_of, rows_from}
use Rattle.search.specs.Counters.{with_counters}
use Rattle.search.specs.Filters.{room_of}
use Rattle.search.specs.Remaining.{plan_from}
use Rattle.plans.specs.Packed.{packed}
use Rattle.search.proofs.Unpacking.{counters_few}
use Rattle.search.proofs.OwnCounters.{own_set, own, masked, own_below, own_plan}
use Rattle.search.proofs.Trying.{whole_plan}
use Rattle.search.proofs.plan_rows.search_rows.Goals as goal

searched : (s : Setup) (rows : List ℕ) (count free x : ℕ) → free ≡ (own_set s.device s.usable).0
    → x ≡ packed (plan_from (counter_count s.device) rows 0 count (room_of rows (record { free = set_of free; rsp0 = 0; rsp1 = 0; packet = 0 })))
    → x ≡ packed (plan_in (counter_count s.device) (rows_from rows 0 count) (empty_room s))
searched s rows count free x e found = rw (found, e, whole_plan (own s) rows count) (ap packed (own_plan s (rows_from rows 0 count)))

pub place_from-requires : goal.place_from-requires
place_from-requires c =
    let few = counters_few c.args.device in (
      omega arith,
      (omega arith, omega arith, omega arith),
      rw c.counter_count.ensures (record {
        some = few.0;
        few = few.1;
        below = rw (masked c.args.device c.args.usable _ c.all_counters.ensures) (own_below c.args.device c.args.usable);
      }),
    )

pub returns : goal.returns
returns c =
    let a = c.args in
    searched (with_counters a.device a.usable) a.rows.now a.count _ _ (masked a.device a.usable _ c.all_counters.ensures)
    (rw c.counter_count.ensures at c.place_from.ensures)
