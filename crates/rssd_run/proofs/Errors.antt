-- What the errors of a device's call tell, over plain values.
use Rattle.std.proofs.Common.{◌≡◌, inl, inr, ℕ, ◌<◌, ◌≤◌, Result, Ok, Err, sym, ◌∙◌}
use Rattle.std.proofs.lemmas.Bool.{cases_lt}
use Rattle.rssd_core.specs.declared.device.FtlError.{FtlError}
use Rattle.rssd_core.specs.declared.device.FtlError.TheVariants.{BadSector, DieFault, Spent}

same_error : {T : Type 0} (e f : FtlError) → ◌≡◌ {A = Result T FtlError} (Err e) (Err f) → e ≡ f
same_error e f same = cc

no_error : {T : Type 0} (x : T) (e : FtlError) → ◌≡◌ {A = Result T FtlError} (Ok x) (Err e) → ⊥
no_error x e same = cc

pub spent_no_fault : {T : Type 0} (e : FtlError) → e ≡ Spent → ◌≡◌ {A = Result T FtlError} (Err e) (Err DieFault) → ⊥
spent_no_fault e is same = let both : Spent ≡ DieFault = sym is ∙ same_error e DieFault same in cc

pub range_no_fault : {T : Type 0} (e : FtlError) → e ≡ BadSector → ◌≡◌ {A = Result T FtlError} (Err e) (Err DieFault) → ⊥
range_no_fault e is same = let both : BadSector ≡ DieFault = sym is ∙ same_error e DieFault same in cc

-- a sector is in range where the call was not refused for it
pub ok_in_range : {T : Type 0} (x : T) (sector sectors : ℕ) → (sectors ≤ sector → ◌≡◌ {A = Result T FtlError} (Ok x) (Err BadSector)) → sector < sectors
ok_in_range x sector sectors refused = elim (cases_lt sector sectors) [ inl near ↦ near | inr far ↦ absurd (no_error x BadSector (refused far)) ]

pub fault_in_range : {T : Type 0} (e : FtlError) (sector sectors : ℕ) → e ≡ DieFault → (sectors ≤ sector → ◌≡◌ {A = Result T FtlError} (Err e) (Err BadSector)) → sector < sectors
fault_in_range e sector sectors is refused = elim (cases_lt sector sectors) [
  | inl near ↦ near
  | inr far ↦ absurd (let both : DieFault ≡ BadSector = sym is ∙ same_error e BadSector (refused far) in cc)
]
