use Rattle.scan_kernel.proofs.AddLaws.{adds_zeros}
use Rattle.scan_kernel.proofs.adding.add_losses.Goals as goal

pub returns-in-PriceTimesDiscount : goal.returns-in-PriceTimesDiscount
returns-in-PriceTimesDiscount c = λ group are. rw c.in-PriceTimesDiscount.is
    (adds_zeros group c.args.places.now c.args.losses.now)

pub returns-in-Revenue : goal.returns-in-Revenue
returns-in-Revenue c = λ group are. rw c.in-Revenue.is (adds_zeros group c.args.places.now c.args.losses.now)

pub returns-in-Quantity : goal.returns-in-Quantity
returns-in-Quantity c = λ group are. rw c.in-Quantity.is (adds_zeros group c.args.places.now c.args.losses.now)

pub returns-in-ExtendedPrice : goal.returns-in-ExtendedPrice
returns-in-ExtendedPrice c = λ group are. rw c.in-ExtendedPrice.is
    (adds_zeros group c.args.places.now c.args.losses.now)

pub returns-in-SupplyCost : goal.returns-in-SupplyCost
returns-in-SupplyCost c = λ group are. rw c.in-SupplyCost.is (adds_zeros group c.args.places.now c.args.losses.now)

pub returns-in-Lines : goal.returns-in-Lines
returns-in-Lines c = λ group are. rw c.in-Lines.is (adds_zeros group c.args.places.now c.args.losses.now)
