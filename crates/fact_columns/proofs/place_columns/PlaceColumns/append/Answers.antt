use Rattle.std.proofs.Common.{◌≡◌, ◌+◌, ◌-◌, ◌++◌, ◌∙◌, ap, length, map, arith, vec_len}
use Rattle.std.specs.List.{range_with_len}
use Rattle.fact_columns.specs.Columns.{Held, place_at}
use Rattle.fact_columns.specs.RowColumns.{RowColumns, appended}
use Rattle.fact_columns.proofs.PlaceListLaws.{alike_long, append_places, long, longer_by, room_for}
use Rattle.fact_columns.proofs.place_columns.PlaceColumns.append.Goals as goal

pub extend-requires : goal.extend-requires
extend-requires c =
    let own = c.self.invariant in
    let room = room_for c.self.inside c.other.inside _ _ _ own c.self.view_is c.other.view_is
    c.in_ok-reserve.ensures.room c.len.ensures in
    omega (arith, room, own.order_room, c.as_slice.ensures.len)

pub extend-requires-2 : goal.extend-requires-2
extend-requires-2 c =
    let own = c.self.invariant in
    let room = room_for c.self.inside c.other.inside _ _ _ own c.self.view_is c.other.view_is
    c.in_ok-reserve.ensures.room c.len.ensures in
    omega (arith, room, own.terms, c.other.invariant.terms, own.terms_room, c.as_slice-2.ensures.len)

pub extend-requires-3 : goal.extend-requires-3
extend-requires-3 c =
    let own = c.self.invariant in
    let room = room_for c.self.inside c.other.inside _ _ _ own c.self.view_is c.other.view_is
    c.in_ok-reserve.ensures.room c.len.ensures in
    omega (arith, room, own.price, c.other.invariant.price, own.price_room, c.as_slice-3.ensures.len)

pub extend-requires-4 : goal.extend-requires-4
extend-requires-4 c =
    let own = c.self.invariant in
    let room = room_for c.self.inside c.other.inside _ _ _ own c.self.view_is c.other.view_is
    c.in_ok-reserve.ensures.room c.len.ensures in
    omega (arith, room, own.revenue, c.other.invariant.revenue, own.revenue_room, c.as_slice-4.ensures.len)

pub extend-requires-5 : goal.extend-requires-5
extend-requires-5 c =
    let own = c.self.invariant in
    let room = room_for c.self.inside c.other.inside _ _ _ own c.self.view_is c.other.view_is
    c.in_ok-reserve.ensures.room c.len.ensures in
    omega (arith, room, own.cost, c.other.invariant.cost, own.cost_room, c.as_slice-5.ensures.len)

pub extend-requires-6 : goal.extend-requires-6
extend-requires-6 c =
    let own = c.self.invariant in
    let room = room_for c.self.inside c.other.inside _ _ _ own c.self.view_is c.other.view_is
    c.in_ok-reserve.ensures.room c.len.ensures in
    omega (
      arith,
      room,
      own.customer_class,
      c.other.invariant.customer_class,
      own.customer_class_room,
      c.as_slice-6.ensures.len,
    )

pub extend-requires-7 : goal.extend-requires-7
extend-requires-7 c =
    let own = c.self.invariant in
    let room = room_for c.self.inside c.other.inside _ _ _ own c.self.view_is c.other.view_is
    c.in_ok-reserve.ensures.room c.len.ensures in
    omega (
      arith,
      room,
      own.supplier_class,
      c.other.invariant.supplier_class,
      own.supplier_class_room,
      c.as_slice-7.ensures.len,
    )

pub extend-requires-8 : goal.extend-requires-8
extend-requires-8 c =
    let own = c.self.invariant in
    let room = room_for c.self.inside c.other.inside _ _ _ own c.self.view_is c.other.view_is
    c.in_ok-reserve.ensures.room c.len.ensures in
    omega (arith, room, own.part_class, c.other.invariant.part_class, own.part_class_room, c.as_slice-8.ensures.len)

pub extend-requires-9 : goal.extend-requires-9
extend-requires-9 c =
    let own = c.self.invariant in
    let room = room_for c.self.inside c.other.inside _ _ _ own c.self.view_is c.other.view_is
    c.in_ok-reserve.ensures.room c.len.ensures in
    omega (arith, room, own.date_class, c.other.invariant.date_class, own.date_class_room, c.as_slice-9.ensures.len)

pub invariant_of-self : goal.invariant_of-self
invariant_of-self c =
    let own = c.self.invariant in
    let other = c.other.invariant in
    let room = room_for c.self.inside c.other.inside _ _ _ own c.self.view_is c.other.view_is
    c.in_ok-reserve.ensures.room c.len.ensures in
    let count : vec_len c.extend.new.column ≡ vec_len c.self.inside.order + vec_len c.other.inside.order =
    c.extend.ensures.len ∙ ap (λ n. vec_len c.self.inside.order + n) c.as_slice.ensures.len in
    record {
      customer = ap (λ (r : RowColumns). length r.customers) c.append.ensures
          ∙ longer_by c.self.inside.rows.columns.customers c.other.inside.rows.columns.customers _ _ _ own.customer other.customer count;
      supplier = ap (λ (r : RowColumns). length r.suppliers) c.append.ensures
          ∙ longer_by c.self.inside.rows.columns.suppliers c.other.inside.rows.columns.suppliers _ _ _ own.supplier other.supplier count;
      part = ap (λ (r : RowColumns). length r.parts) c.append.ensures
          ∙ longer_by c.self.inside.rows.columns.parts c.other.inside.rows.columns.parts _ _ _ own.part other.part count;
      date = ap (λ (r : RowColumns). length r.dates) c.append.ensures
          ∙ longer_by c.self.inside.rows.columns.dates c.other.inside.rows.columns.dates _ _ _ own.date other.date count;
      terms = omega (arith, count, c.extend-2.ensures.len, c.as_slice-2.ensures.len, own.terms, other.terms);
      price = omega (arith, count, c.extend-3.ensures.len, c.as_slice-3.ensures.len, own.price, other.price);
      revenue = omega (arith, count, c.extend-4.ensures.len, c.as_slice-4.ensures.len, own.revenue, other.revenue);
      cost = omega (arith, count, c.extend-5.ensures.len, c.as_slice-5.ensures.len, own.cost, other.cost);
      customer_class = omega (
        arith,
        count,
        c.extend-6.ensures.len,
        c.as_slice-6.ensures.len,
        own.customer_class,
        other.customer_class,
      );
      supplier_class = omega (
        arith,
        count,
        c.extend-7.ensures.len,
        c.as_slice-7.ensures.len,
        own.supplier_class,
        other.supplier_class,
      );
      part_class = omega (
        arith,
        count,
        c.extend-8.ensures.len,
        c.as_slice-8.ensures.len,
        own.part_class,
        other.part_class,
      );
      date_class = omega (
        arith,
        count,
        c.extend-9.ensures.len,
        c.as_slice-9.ensures.len,
        own.date_class,
        other.date_class,
      );
      within = omega (arith, count, room);
      order_room = omega (arith, own.order_room, c.extend.ensures.capacity);
      terms_room = omega (arith, own.terms_room, c.extend-2.ensures.capacity);
      price_room = omega (arith, own.price_room, c.extend-3.ensures.capacity);
      revenue_room = omega (arith, own.revenue_room, c.extend-4.ensures.capacity);
      cost_room = omega (arith, own.cost_room, c.extend-5.ensures.capacity);
      customer_class_room = omega (arith, own.customer_class_room, c.extend-6.ensures.capacity);
      supplier_class_room = omega (arith, own.supplier_class_room, c.extend-7.ensures.capacity);
      part_class_room = omega (arith, own.part_class_room, c.extend-8.ensures.capacity);
      date_class_room = omega (arith, own.date_class_room, c.extend-9.ensures.capacity);
    }

pub returns-clause-places : goal.returns-clause-places
returns-clause-places c =
    let t = c.self.inside in
    let o = c.other.inside in
    let order : c.extend.new.column.items ≡ t.order.items ++ o.order.items =
    c.extend.ensures.items ∙ ap (λ l. t.order.items ++ l) c.as_slice.ensures.value in
    let rows : c.append.new.self.columns ≡ appended t.rows.columns o.rows.columns = c.append.ensures in
    let terms : c.extend-2.new.column.items ≡ t.terms.items ++ o.terms.items =
    c.extend-2.ensures.items ∙ ap (λ l. t.terms.items ++ l) c.as_slice-2.ensures.value in
    let price : c.extend-3.new.column.items ≡ t.price.items ++ o.price.items =
    c.extend-3.ensures.items ∙ ap (λ l. t.price.items ++ l) c.as_slice-3.ensures.value in
    let revenue : c.extend-4.new.column.items ≡ t.revenue.items ++ o.revenue.items =
    c.extend-4.ensures.items ∙ ap (λ l. t.revenue.items ++ l) c.as_slice-4.ensures.value in
    let cost : c.extend-5.new.column.items ≡ t.cost.items ++ o.cost.items =
    c.extend-5.ensures.items ∙ ap (λ l. t.cost.items ++ l) c.as_slice-5.ensures.value in
    let customer_class : c.extend-6.new.column.items ≡ t.customer_class.items ++ o.customer_class.items =
    c.extend-6.ensures.items ∙ ap (λ l. t.customer_class.items ++ l) c.as_slice-6.ensures.value in
    let supplier_class : c.extend-7.new.column.items ≡ t.supplier_class.items ++ o.supplier_class.items =
    c.extend-7.ensures.items ∙ ap (λ l. t.supplier_class.items ++ l) c.as_slice-7.ensures.value in
    let part_class : c.extend-8.new.column.items ≡ t.part_class.items ++ o.part_class.items =
    c.extend-8.ensures.items ∙ ap (λ l. t.part_class.items ++ l) c.as_slice-8.ensures.value in
    let date_class : c.extend-9.new.column.items ≡ t.date_class.items ++ o.date_class.items =
    c.extend-9.ensures.items ∙ ap (λ l. t.date_class.items ++ l) c.as_slice-9.ensures.value in
    let count : vec_len c.extend.new.column ≡ vec_len t.order + vec_len o.order =
    c.extend.ensures.len ∙ ap (λ n. vec_len t.order + n) c.as_slice.ensures.len in
    (λ i. map (place_at (order i) (rows i).customers (rows i).suppliers (rows i).parts (rows i).dates (terms i) (price i) (revenue i) (cost i)
    (customer_class i) (supplier_class i) (part_class i) (date_class i)) (range_with_len 0 (count i)))
    ∙ append_places t.order.items t.rows.columns.customers t.rows.columns.suppliers t.rows.columns.parts t.rows.columns.dates t.terms.items
    t.price.items t.revenue.items t.cost.items t.customer_class.items t.supplier_class.items t.part_class.items
    t.date_class.items o.order.items o.rows.columns.customers o.rows.columns.suppliers o.rows.columns.parts o.rows.columns.dates o.terms.items
    o.price.items o.revenue.items o.cost.items o.customer_class.items o.supplier_class.items o.part_class.items
    o.date_class.items (vec_len t.order) (vec_len o.order) (alike_long t c.self.invariant) (alike_long o
    c.other.invariant)
    ∙ (λ i. (c.self.view_is i).places ++ (c.other.view_is i).places)
    ∙ ap (λ places. places ++ c.args.other.now.places) c.reserve.ensures.places

pub returns-clause-room : goal.returns-clause-room
returns-clause-room c =
    let t = c.self.inside in
    let o = c.other.inside in
    let count : vec_len c.extend.new.column ≡ vec_len t.order + vec_len o.order =
    c.extend.ensures.len ∙ ap (λ n. vec_len t.order + n) c.as_slice.ensures.len in
    let exact : t.capacity - vec_len t.order ≡ c.len.result =
    ap (λ (h : Held). h.room) c.self.view_is ∙ c.in_ok-reserve.ensures.exact in
    let others : c.len.result ≡ vec_len o.order = c.len.ensures ∙ long o c.args.other.now c.other.view_is in
    omega (arith, count, exact, others)
