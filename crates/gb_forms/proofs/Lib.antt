mod OrderSteps
