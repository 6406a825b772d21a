-- The permitted bits, by computation. Assumes nothing.
use mathlib.Core.Path.{refl}
use Prim.Native.Nat.{zero, suc}
use Rattle.requests.specs.Choice.{either}
use Rattle.requests.specs.declared.Device.TheVariants.{G, S, C, B}
use Rattle.requests.specs.Bits.{in_list, type_bits, any_response, answer_bits, outstanding, rsp0_bits, rsp1_bits, rising, field, match_bits, mask_bits}
use Rattle.requests.specs.Devices.{counter_count}
use Rattle.layouts.specs.Layout.{tabulate, cbox_globals, cbox_global, layout_of, control_at, rsp0_at, rsp1_at, mm_cfg_at, match_at, mask_at, ubox_at, ubox_bits, pebs_at, precise_store, pebs_bits, control_bits, global_bits, mm_enable, registers_of}
use Rattle.layouts.specs.Settings.{set_from}
use Rattle.layouts.specs.PermittedBits.{permitted_of, bits_together, PermittedBits}

pub permitted_bits : PermittedBits
unfolding permitted_of bits_together registers_of set_from either in_list type_bits any_response answer_bits outstanding rsp0_bits rsp1_bits rising field match_bits mask_bits counter_count tabulate cbox_globals cbox_global layout_of control_at rsp0_at rsp1_at mm_cfg_at match_at mask_at ubox_at ubox_bits pebs_at precise_store pebs_bits control_bits global_bits mm_enable
permitted_bits G = refl
permitted_bits S = refl
permitted_bits (C zero) = refl
permitted_bits (C (suc zero)) = refl
permitted_bits (C (suc (suc zero))) = refl
permitted_bits (C (suc (suc (suc zero)))) = refl
permitted_bits (C (suc (suc (suc (suc zero))))) = refl
permitted_bits (C (suc (suc (suc (suc (suc zero)))))) = refl
permitted_bits (C (suc (suc (suc (suc (suc (suc zero))))))) = refl
permitted_bits (C (suc (suc (suc (suc (suc (suc (suc zero)))))))) = refl
permitted_bits (C (suc (suc (suc (suc (suc (suc (suc (suc b))))))))) = refl
permitted_bits B = refl
