use Rattle.hd_heap.proofs.Basics.{HEADER, None, Object, ap, get_or, length, length-map, length-replicate, map, new_region_object, refl, sym, with_value, ℕ, ◌+◌, ◌∙◌}
use Rattle.hd_heap.specs.Inside.{stored_target}
use Rattle.hd_heap.proofs.FieldFill.{IsNew, new_is, new_put, new_there, new_written, nulls}
use Rattle.hd_heap.proofs.filling.put_filled.Goals.{After-set_value}
use Rattle.hd_heap.proofs.filling.put_filled.Goals as goal

pub set_value-requires : goal.set_value-requires
set_value-requires c =
    new_there (new_put c.args.region.now
    (new_region_object c.args.id (length c.args.src.now) c.args.registered) c.put_object-at.ensures.offset
    c.put_object-at.ensures.put)

-- the object with its value
valued : (c : After-set_value) → IsNew c.args.region.now c.set_value.new.self c.put_object-at.result
    (with_value (new_region_object c.args.id (length c.args.src.now) c.args.registered) c.args.value)
valued c =
    new_written (new_put c.args.region.now
    (new_region_object c.args.id (length c.args.src.now) c.args.registered) c.put_object-at.ensures.offset
    c.put_object-at.ensures.put) (λ o. with_value o c.args.value) refl c.set_value.ensures.written

pub fill_fields-requires-clause-laid_out : goal.fill_fields-requires-clause-laid_out
fill_fields-requires-clause-laid_out c = c.set_value.ensures.laid_out

pub fill_fields-requires-clause-object : goal.fill_fields-requires-clause-object
fill_fields-requires-clause-object c =
    new_there (valued ((goal.at.fill_fields-requires-clause-object c).After-set_value))

pub fill_fields-requires-clause-number : goal.fill_fields-requires-clause-number
fill_fields-requires-clause-number c =
    let is = new_is (valued ((goal.at.fill_fields-requires-clause-number c).After-set_value)) in
    sym (ap (λ (o : Object). length o.fields) is ∙ length-replicate (length c.args.src.now) (let z : ℕ = 0 in z))

pub fill_fields-requires-clause-null : goal.fill_fields-requires-clause-null
fill_fields-requires-clause-null c = λ i.
    let is = new_is (valued ((goal.at.fill_fields-requires-clause-null c).After-set_value)) in
    ap (λ (o : Object). get_or o.fields i 0) is ∙ nulls (length c.args.src.now) i

pub returns-clause-put : goal.returns-clause-put
returns-clause-put c =
    let g = λ (i : ℕ). stored_target (get_or c.args.targets.now (c.args.first + i) None) in
    let nulls_long = length-replicate (length c.args.src.now) (let z : ℕ = 0 in z) in
    (new_written (valued ((goal.at.returns-clause-put c).After-set_value))
    (λ o. record o { fields = map g c.args.src.now })
    (ap (λ n. n + HEADER) (nulls_long ∙ sym (length-map c.args.src.now g))) c.fill_fields.ensures.written).is
