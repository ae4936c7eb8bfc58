mod CoefficientLists
mod WordGroups
mod GivenOrders
mod RunLengths
